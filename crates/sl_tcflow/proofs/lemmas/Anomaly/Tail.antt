-- The octets that are left after the packets of the service data unit that ends with a segment are reported exactly
-- as they are.
use Rattle.std.proofs.Common.{◌≡◌, ◌⊎◌, ℕ, ◌+◌, ◌<◌, ◌==◌, Bool, true, if◌then◌else◌, List, [], ◌∷◌, ◌++◌, length, inl, inr, refl, sym, ◌∙◌, ap, subst, arith, append-nil, eqb-true, le-leb, Contains}
use Rattle.std.specs.List.{AllByRecursion, flat_map}
use Rattle.std.proofs.lemmas.Bool.Decides.{leb_tells}
use Rattle.std.proofs.lemmas.List.Elements.{All-contains, All-from_recursion, Contains-append_cases, Contains-push}
use Rattle.sl_packet.specs.Packets.{packets_of, rest_of}
use Rattle.sl_packet.proofs.PacketsLemmas.{each_has_packets, has_packets_once}
use Rattle.sl_tcflow.specs.Anomaly.{rest_of_series, tail_of, HasTail, TailIsTold, WhatIsToldIsTail}
use Rattle.sl_tcflow.specs.Series.{flags_of, IsSeriesOf, SeriesAt, past, reassembled, series_of}
use Rattle.sl_tcflow.proofs.lemmas.Series.OneMore.{each_ending, ending_is, series_ending, series_next, series_within}
use Rattle.sl_tcflow.proofs.lemmas.Series.Listed.{each_is_series, each_series_is_listed, series_at}

-- ---- lists

each-contained : {X : Type 0} (P : X → Type 0) (xs : List X) (x : X) → AllByRecursion P xs → Contains xs x → P x
each-contained P xs x each there = All-contains P xs x (All-from_recursion P xs each) there

abbrev AtMostOne : List SeriesAt → Type 0
AtMostOne list = (list ≡ []) ⊎ ((s : SeriesAt) × (list ≡ s ∷ []))

only_one : (list : List SeriesAt) (s : SeriesAt) → AtMostOne list → Contains list s → list ≡ s ∷ []
only_one list s one held = grind (arith, each-contained)

-- ---- the series that ends with a segment

one_or : (b : Bool) (s : SeriesAt) (list : List SeriesAt) → AtMostOne list → AtMostOne (if b then s ∷ [] else list)
one_or b s list few = grind arith

ending_one : (before : ℕ) (list : List (List ℕ)) (next : List ℕ) → AtMostOne (series_ending before list next)
ending_one before [] next = one_or (flags_of next == 3) (series_at before (next ∷ [])) [] (inl refl)
ending_one before (segment ∷ later) next = grind (arith, one_or, ending_one (before + 1) later next)

abbrev left_of : List SeriesAt → List ℕ
left_of list = flat_map (λ (s : SeriesAt). rest_of_series s.segments) list

-- the octets that are left of the service data unit that ends with the segment
tail_ending : (list : List (List ℕ)) (next : List ℕ) (s : SeriesAt) → series_ending 0 list next ≡ s ∷ [] → tail_of list next ≡ length (rest_of_series s.segments)
tail_ending list next s one = ap (λ l. length (left_of l)) (ending_is list next ∙ one) ∙ ap length (append-nil (rest_of_series s.segments))

pub tail_is_told : TailIsTold
tail_is_told list next count tail =
    let now = series_ending 0 list next in
    let octets = reassembled tail.ended.segments in
    let listed : Contains (series_of list ++ now) tail.ended =
    subst (λ l. Contains l tail.ended) (series_next 0 list next) (each_series_is_listed (list ++ next ∷ []) tail.ended tail.series) in
    let ending : Contains now tail.ended =
    elim (Contains-append_cases (series_of list) now tail.ended listed) [
      | inl earlier ↦
          let within = series_within list tail.ended (each-contained (IsSeriesOf list) (series_of list) tail.ended (each_is_series list) earlier) in
          absurd (omega (arith, tail.here, within))
      | inr later ↦ later
    ] in
    tail_ending list next tail.ended (only_one now tail.ended (ending_one 0 list next) ending)
    ∙ ap (λ b. length (if b then rest_of octets else [])) (le-leb (length octets) 65542 tail.fits)
    ∙ ap length (has_packets_once octets tail.packets tail.left tail.are_packets).1 ∙ sym tail.count_is

-- ---- the report on octets that are left

told_of : (list : List (List ℕ)) (next : List ℕ) (s : SeriesAt) → series_ending 0 list next ≡ s ∷ [] → 0 < tail_of list next → HasTail list next (tail_of list next)
told_of list next s one some =
    let octets = reassembled s.segments in
    let same = tail_ending list next s one in
    let all : series_of (list ++ next ∷ []) ≡ series_of list ++ s ∷ [] = series_next 0 list next ∙ ap (λ l. series_of list ++ l) one in
    let each = subst (AllByRecursion (IsSeriesOf (list ++ next ∷ []))) all (each_is_series (list ++ next ∷ [])) in
    let ends = subst (AllByRecursion (λ (t : SeriesAt). (past t == (length list + 1)) ≡ true)) one (each_ending (length list + 1) 0 list next (omega arith)) in
    elim (leb_tells (length octets) 65542) [
      | inl (test, few) ↦ record {
        ended = s;
        series = each-contained (IsSeriesOf (list ++ next ∷ [])) (series_of list ++ s ∷ []) s each (Contains-push (series_of list) s);
        here = eqb-true (past s) (length list + 1) ends.0;
        fits = few;
        packets = packets_of octets;
        left = rest_of octets;
        are_packets = each_has_packets octets;
        count_is = same ∙ ap (λ b. length (if b then rest_of octets else [])) test;
      }
      | inr (test, over) ↦
          let none : tail_of list next ≡ 0 = same ∙ ap (λ b. length (if b then rest_of octets else [])) test in
          absurd (omega (arith, some, none))
    ]

pub what_is_told_is_tail : WhatIsToldIsTail
what_is_told_is_tail list next some =
    elim (ending_one 0 list next) [
      | inl nothing ↦
          let none : tail_of list next ≡ 0 = ap (λ l. length (left_of l)) (ending_is list next ∙ nothing) in
          absurd (omega (arith, some, none))
      | inr (s, one) ↦ told_of list next s one some
    ]
