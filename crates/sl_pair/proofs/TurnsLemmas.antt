-- Two recordings that are read in turns.
use Rattle.std.proofs.Common.{◌≡◌, ◌↔◌, ◌⊎◌, ℕ, List, [], ◌∷◌, ◌++◌, length, inl, inr, refl, sym, ◌∙◌, ap, ap₂, subst, append_assoc, append-nil, arith}
use Rattle.std.specs.List.{Contains}
use Rattle.std.proofs.lemmas.List.Elements.{Contains-append_left, Contains-push, Contains-push_cases}
use Rattle.sl_pair.specs.OnlyIn.{Packets}
use Rattle.sl_pair.specs.Placed.{AreCounterparts, Placed, left_in}
use Rattle.sl_pair.specs.Turns.{Coming, FromFirst, FromSecond, IsRead, Reading, TurnsDontMatter, after, after_one, firsts, seconds}
use Rattle.sl_pair.specs.Waiting.{waiting}
use Rattle.sl_pair.proofs.CounterpartLemmas.{counterparts-matched, counterparts-matched_other, counterparts-unmatched, counterparts-unmatched_other}
use Rattle.sl_pair.proofs.PlacedLemmas.{none_waits, waiting-is}
use Rattle.sl_pair.proofs.StruckLemmas.{first_left, left_in-matched, left_in-struck, left_in-unmatched, none_left}

-- ---- what a packet meets

-- The first copy that waits on the other side, or none.
abbrev Meets : List ℕ → Packets → Packets → Type 0
Meets packet own others =
    ((head : Placed) × (later : List Placed) × (waiting packet others own ≡ head ∷ later)) ⊎ (waiting packet others own ≡ [])

meets : (packet : List ℕ) (own others : Packets) → Meets packet own others
meets packet own others = cases (waiting packet others own)
  where
    cases : (l : List Placed) → ((head : Placed) × (later : List Placed) × (l ≡ head ∷ later)) ⊎ (l ≡ [])
    cases [] = inr refl
    cases (head ∷ later) = inl (head, later, refl)

-- ---- the pairs

-- exactly the counterparts are among the pairs
abbrev ArePairs : Packets → Packets → List (ℕ × ℕ) → Type 0
ArePairs ps qs pairs = (n m : ℕ) → Contains pairs (n, m) ↔ AreCounterparts ps qs n m

-- one pair more
pairs-push : (ps qs more_ps more_qs : Packets) (pairs : List (ℕ × ℕ)) (a b : ℕ) → ArePairs ps qs pairs
    → ((n m : ℕ) → AreCounterparts more_ps more_qs n m ↔ (AreCounterparts ps qs n m ⊎ ((n ≡ a) × (m ≡ b))))
    → ArePairs more_ps more_qs (pairs ++ (a, b) ∷ [])
pairs-push ps qs more_ps more_qs pairs a b are new n m = (
  (λ there. (new n m).1 (elim (Contains-push_cases pairs (a, b) (n, m) there) [
    | inl old ↦ inl ((are n m).0 old)
    | inr same ↦ inr (sym (ap (λ (p : ℕ × ℕ). p.0) same), sym (ap (λ (p : ℕ × ℕ). p.1) same))
  ])),
  (λ pair. elim ((new n m).0 pair) [
    | inl old ↦ Contains-append_left pairs ((a, b) ∷ []) (n, m) ((are n m).1 old)
    | inr same ↦
        let there : (a, b) ≡ (n, m) = ap₂ (λ x y. (x, y)) (sym same.0) (sym same.1) in
        subst (Contains (pairs ++ (a, b) ∷ [])) there (Contains-push pairs (a, b))
  ]),
)

-- ---- one packet more

-- what stands after packets were read
abbrev standing : Packets → Packets → List (ℕ × ℕ) → Reading
standing ps qs pairs =
    record { first = ps; second = qs; first_left = left_in ps qs; second_left = left_in qs ps; pairs = pairs }

abbrev Stands : Packets → Packets → Reading → Type 0
Stands ps qs r = (pairs : List (ℕ × ℕ)) × (r ≡ standing ps qs pairs) × ArePairs ps qs pairs

from_first : (packet : List ℕ) (ps qs : Packets) (pairs : List (ℕ × ℕ)) → ArePairs ps qs pairs
    → Stands (ps ++ packet ∷ []) qs (after_one (standing ps qs pairs) (FromFirst packet))
from_first packet ps qs pairs are = elim (meets packet ps qs) [
  | inl one ↦
      let (head, later, is) = one in
      let meeting = first_left packet (left_in qs ps) head later (waiting-is packet qs ps ∙ is) in
      let kept = left_in-matched packet ps qs head later is in
      let struck = left_in-struck ps qs packet in (
        pairs ++ (length ps, head.number) ∷ [],
        rw (meeting.there, kept, struck, meeting.number) refl,
        pairs-push ps qs (ps ++ packet ∷ []) qs pairs (length ps) head.number are (counterparts-matched packet ps qs head later is),
      )
  | inr none ↦
      let few = none_waits packet qs ps (ap length none) in
      let meeting = none_left packet (left_in qs ps) (waiting-is packet qs ps ∙ none) in
      let more = left_in-unmatched packet ps qs few in
      let struck = left_in-struck ps qs packet ∙ meeting.kept in
      let same = counterparts-unmatched packet ps qs few in (
        pairs,
        rw (meeting.none, more, struck) refl,
        (λ n m. ((λ there. (same n m).1 ((are n m).0 there)), (λ pair. (are n m).1 ((same n m).0 pair)))),
      )
]

from_second : (packet : List ℕ) (ps qs : Packets) (pairs : List (ℕ × ℕ)) → ArePairs ps qs pairs
    → Stands ps (qs ++ packet ∷ []) (after_one (standing ps qs pairs) (FromSecond packet))
from_second packet ps qs pairs are = elim (meets packet qs ps) [
  | inl one ↦
      let (head, later, is) = one in
      let meeting = first_left packet (left_in ps qs) head later (waiting-is packet ps qs ∙ is) in
      let kept = left_in-matched packet qs ps head later is in
      let struck = left_in-struck qs ps packet in (
        pairs ++ (head.number, length qs) ∷ [],
        rw (meeting.there, kept, struck, meeting.number) refl,
        pairs-push ps qs ps (qs ++ packet ∷ []) pairs head.number (length qs) are (counterparts-matched_other packet ps qs head later is),
      )
  | inr none ↦
      let few = none_waits packet ps qs (ap length none) in
      let meeting = none_left packet (left_in ps qs) (waiting-is packet ps qs ∙ none) in
      let more = left_in-unmatched packet qs ps few in
      let struck = left_in-struck qs ps packet ∙ meeting.kept in
      let same = counterparts-unmatched_other packet ps qs few in (
        pairs,
        rw (meeting.none, more, struck) refl,
        (λ n m. ((λ there. (same n m).1 ((are n m).0 there)), (λ pair. (are n m).1 ((same n m).0 pair)))),
      )
]

-- ---- one after another

in_turns : (ps qs : Packets) (pairs : List (ℕ × ℕ)) (comings : List Coming) → ArePairs ps qs pairs
    → Stands (ps ++ firsts comings) (qs ++ seconds comings) (after (standing ps qs pairs) comings)
in_turns ps qs pairs [] are = rw (append-nil ps, append-nil qs) (pairs, refl, are)
in_turns ps qs pairs (FromFirst packet ∷ later) are =
    let (more, now, still) = from_first packet ps qs pairs are in
    rw (now, ← append_assoc ps (packet ∷ []) (firsts later)) (in_turns (ps ++ packet ∷ []) qs more later still)
in_turns ps qs pairs (FromSecond packet ∷ later) are =
    let (more, now, still) = from_second packet ps qs pairs are in
    rw (now, ← append_assoc qs (packet ∷ []) (seconds later)) (in_turns ps (qs ++ packet ∷ []) more later still)

none_paired : ArePairs [] [] []
none_paired n m = ((λ there. absurd (omega (arith, there.1))), (λ pair. absurd (omega (arith, pair.inside))))

pub turns_dont_matter : TurnsDontMatter
turns_dont_matter comings =
    let (pairs, is, are) = in_turns [] [] [] comings none_paired in
    subst (IsRead comings) (sym is) (record { first_left = refl; second_left = refl; paired = are })
