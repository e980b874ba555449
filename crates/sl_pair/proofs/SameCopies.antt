-- Recordings with as many copies of each packet: they have the same packets in some order.
use Rattle.std.proofs.Common.{◌≡◌, ℕ, ◌+◌, true, ◌||◌, List, [], ◌∷◌, inl, inr, refl, sym, ◌∙◌, ap, subst, arith}
use Rattle.std.specs.Prelude.{bytes_eq, count_by}
use Rattle.std.specs.List.Sorted.{IsPermutation}
use Rattle.std.proofs.lemmas.Bool.{false≢true}
use Rattle.std.proofs.lemmas.List.Sorted.{IsPermutation-cons, IsPermutation-middle, IsPermutation-refl, IsPermutation-sym, IsPermutation-trans, sum_by-IsPermutation}
use Rattle.std.proofs.lemmas.List.Sums.{sum_by-cons}
use Rattle.sl_pair.specs.OnlyIn.{Packets, copies, is_among, without_first}
use Rattle.sl_pair.proofs.CopiesLemmas.{adds, adds-same, among_by_copies, copies-without_first, same_or_other, same_self}

-- as many copies of each packet
abbrev pub HaveSameCopies : Packets → Packets → Type 0
HaveSameCopies ps qs = (x : List ℕ) → copies x ps ≡ copies x qs

copies_counted : (x : List ℕ) (ps : Packets) → copies x ps ≡ count_by (bytes_eq x) ps
copies_counted x [] = refl
copies_counted x (p ∷ ps) = ap (λ n. adds x p + n) (copies_counted x ps) ∙ sym (sum_by-cons (adds x) p ps)

pub copies-permutation : (ps qs : Packets) → IsPermutation ps qs → HaveSameCopies ps qs
copies-permutation ps qs moved x =
    copies_counted x ps ∙ sym (sum_by-IsPermutation (adds x) ps qs moved) ∙ sym (copies_counted x qs)

-- a packet's first copy may stand in front
front : (p : List ℕ) (qs : Packets) → is_among p qs ≡ true → IsPermutation qs (p ∷ without_first p qs)
front p [] among = absurd (false≢true among)
front p (q ∷ qs) among = elim (same_or_other p q) [
  | inl same ↦ rw same.1 (subst (λ r. IsPermutation (q ∷ qs) (r ∷ qs)) (sym same.0) (IsPermutation-refl (q ∷ qs)))
  | inr other ↦
      let rest = without_first p qs in
      let later = front p qs (sym (ap (λ b. b || is_among p qs) other) ∙ among) in
      rw other (IsPermutation-trans (q ∷ qs) (q ∷ p ∷ rest) (p ∷ q ∷ rest)
      (IsPermutation-cons q qs (p ∷ rest) later) (IsPermutation-middle (q ∷ []) p rest))
]

-- without copies there is no packet
pub none_from_copies : (ps : Packets) → ((x : List ℕ) → copies x ps ≡ 0) → ps ≡ []
none_from_copies [] none = refl
none_from_copies (p ∷ ps) none = absurd (omega (arith, adds-same p p (same_self p), none p))

pub permutation_from_copies : (ps qs : Packets) → HaveSameCopies ps qs → IsPermutation ps qs
permutation_from_copies [] qs same =
    subst (IsPermutation []) (sym (none_from_copies qs (λ x. sym (same x)))) (IsPermutation-refl [])
permutation_from_copies (p ∷ ps) qs same =
    let among : is_among p qs ≡ true = among_by_copies p qs (omega (arith, same p, adds-same p p (same_self p))) in
    let rest = without_first p qs in
    let later : HaveSameCopies ps rest = λ x. omega (arith, same x, copies-without_first x p qs among) in
    IsPermutation-trans (p ∷ ps) (p ∷ rest) qs (IsPermutation-cons p ps rest (permutation_from_copies ps rest later))
    (IsPermutation-sym qs (p ∷ rest) (front p qs among))
