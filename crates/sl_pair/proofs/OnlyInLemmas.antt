-- The packets that only one of two recordings has, and those that both have.
use Rattle.std.proofs.Common.{◌≡◌, ℕ, ◌+◌, ◌-◌, ◌≤◌, false, List, [], ◌∷◌, inl, inr, refl, ap, arith}
use Rattle.std.proofs.lemmas.Bool.{cases_Bool}
use Rattle.sl_packet.specs.Sublist.{IsSublist}
use Rattle.sl_pair.specs.OnlyIn.{CopiesAreSubtracted, OrderIsKept, Packets, copies, in_both, is_among, only_in, without_first}
use Rattle.sl_pair.proofs.CopiesLemmas.{adds, among_by_copies, apart, copies-without_first, none_among, some_among}
use Rattle.sl_pair.proofs.SameCopies.{HaveSameCopies}

-- ---- how many copies

pub copies_are_subtracted : CopiesAreSubtracted
copies_are_subtracted x [] others = omega arith
copies_are_subtracted x (p ∷ later) others =
    let rest = without_first p others in
    elim (cases_Bool (is_among p others)) [
      | inl among ↦
          let n : copies x (only_in later rest) ≡ (adds x p + copies x later) - copies x others =
          omega (arith, copies_are_subtracted x later rest, copies-without_first x p others among) in
          rw among n
      | inr none ↦
          let have : copies x (only_in later others) ≡ copies x later - copies x others = copies_are_subtracted x later others in
          let n : adds x p + copies x (only_in later others) ≡ (adds x p + copies x later) - copies x others =
          elim (apart x p others none) [ inl none_of_it ↦ omega arith | inr other ↦ omega arith ] in
          rw none n
    ]

-- the copies that both have and those that only one has are all of this one
pub copies-in_both : (x : List ℕ) (ps others : Packets) → copies x (in_both ps others) + copies x (only_in ps others) ≡ copies x ps
copies-in_both x [] others = refl
copies-in_both x (p ∷ later) others =
    let rest = without_first p others in
    elim (cases_Bool (is_among p others)) [
      | inl among ↦
          let n : (adds x p + copies x (in_both later rest)) + copies x (only_in later rest) ≡ adds x p + copies x later =
          omega (arith, copies-in_both x later rest) in
          rw among n
      | inr none ↦
          let n : copies x (in_both later others) + (adds x p + copies x (only_in later others)) ≡ adds x p + copies x later =
          omega (arith, copies-in_both x later others) in
          rw none n
    ]

-- ---- their order

sublist_more : (p : List ℕ) (xs ps : Packets) → IsSublist xs ps → IsSublist xs (p ∷ ps)
sublist_more p [] ps within = tt
sublist_more p (x ∷ xs) ps within = inr within

pub order_is_kept : OrderIsKept
order_is_kept [] others = tt
order_is_kept (p ∷ later) others =
    let rest = without_first p others in
    elim (cases_Bool (is_among p others)) [
      | inl among ↦ rw among (sublist_more p (only_in later rest) later (order_is_kept later rest))
      | inr none ↦ rw none (inl (refl, order_is_kept later others))
    ]

-- a sublist has no more copies
pub copies-sublist : (x : List ℕ) (ps qs : Packets) → IsSublist ps qs → copies x ps ≤ copies x qs
copies-sublist x [] qs within = omega arith
copies-sublist x (p ∷ ps) [] within = absurd within
copies-sublist x (p ∷ ps) (q ∷ qs) (inl here) = omega (arith, ap (adds x) here.0, copies-sublist x ps qs here.1)
copies-sublist x (p ∷ ps) (q ∷ qs) (inr later) = omega (arith, copies-sublist x (p ∷ ps) qs later)

-- ---- the others' order

-- only the copies among the others matter
pub only_in-same_copies : (ps others more : Packets) → HaveSameCopies others more → only_in ps others ≡ only_in ps more
only_in-same_copies [] others more same = refl
only_in-same_copies (p ∷ later) others more same = elim (cases_Bool (is_among p others)) [
  | inl among ↦
      let also = among_by_copies p more (omega (arith, same p, some_among p others among)) in
      let rest = without_first p others in
      let rest_more = without_first p more in
      let alike : HaveSameCopies rest rest_more =
      λ x. omega (arith, same x, copies-without_first x p others among, copies-without_first x p more also) in
      rw (among, also) (only_in-same_copies later rest rest_more alike)
  | inr none ↦
      let neither : is_among p more ≡ false = elim (cases_Bool (is_among p more)) [
        | inl among ↦ absurd (omega (arith, same p, none_among p others none, some_among p more among))
        | inr not ↦ not
      ] in
      rw (none, neither) (ap (λ l. p ∷ l) (only_in-same_copies later others more same))
]
