-- What the next segment of a MAP does: the packets that end with it, and the series that is incomplete after it.
use Rattle.std.proofs.Common.{◌≡◌, ◌≢◌, ℕ, ◌+◌, ◌≤◌, ◌==◌, ◌&&◌, Bool, true, false, if◌then◌else◌, List, [], ◌∷◌, ◌++◌, length, map, Option, None, inl, inr, refl, sym, ◌∙◌, ap, ap₂, arith, append-nil, append_assoc, length-append, eqb-true, eq-eqb, ne_eqb}
use Rattle.std.specs.List.{AllByRecursion, filter, flat_map}
use Rattle.std.proofs.lemmas.Bool.Decides.{eqb_tells}
use Rattle.std.proofs.lemmas.Grind.{flat_map-append}
use Rattle.std.proofs.lemmas.List.{length_push}
use Rattle.std.proofs.lemmas.List.Elements.{filter-append}
use Rattle.sl_tcflow.specs.Incomplete.{if_fits, are_continuing, incomplete_of}
use Rattle.sl_tcflow.specs.IncompleteSteps.{extended, incomplete_after}
use Rattle.sl_tcflow.specs.Reception.{packets_of_series, packets_of_segments, packets_ended}
use Rattle.sl_tcflow.specs.Series.{flags_of, segment_data, SeriesAt, IsSeriesOf, past, completed, series_with, series_from, series_of, reassembled}
use Rattle.sl_fields.proofs.ListLemmas.{each-weaker, filter_all, filter_none}
use Rattle.sl_tcflow.proofs.lemmas.Series.Fit.{reassembled-push, extended_fits}
use Rattle.sl_tcflow.proofs.lemmas.Series.Incomplete.{continuing_each}
use Rattle.sl_tcflow.proofs.lemmas.Series.Listed.{IsContinuing, series_at, completed_continuing, completed_last, completed_other, completed_all, begins_whole, begins_divided, begins_none, each_is_series}
use Rattle.std.proofs.lemmas.Bool.{and_parts}
use Rattle.std.proofs.Math.Bool.{and_assoc}

-- ---- by the sequence flags of the next segment

after_continuing : (held : Option (List ℕ)) (next : List ℕ) → flags_of next ≡ 0 → incomplete_after held next ≡ extended held (segment_data next)
after_continuing held next is = grind arith

-- the incomplete series matters to a continuing segment alone
after_other : (held other : Option (List ℕ)) (next : List ℕ) → flags_of next ≢ 0 → incomplete_after held next ≡ incomplete_after other next
after_other held other next not_0 = grind (arith, ne_eqb)

-- ---- the incomplete series

are_continuing-push : (later : List (List ℕ)) (next : List ℕ) → are_continuing (later ++ next ∷ []) ≡ (are_continuing later && are_continuing (next ∷ []))
are_continuing-push [] next = refl
are_continuing-push (segment ∷ later) next = grind (arith, and_assoc, are_continuing-push later next)

-- the incomplete series with one more segment, where a first segment is followed by continuing ones or not
one_more_after : (goes_on : Bool) (together held : Option (List ℕ)) (next : List ℕ)
    → (if goes_on && are_continuing (next ∷ []) then extended together (segment_data next) else incomplete_after held next)
    ≡ incomplete_after (if goes_on then together else held) next
one_more_after goes_on together held next = grind (arith, eqb_tells, after_continuing, after_other)

only_next : (first continuing : Bool) (octets : Option (List ℕ)) → (if first && true then octets else None) ≡ (if first then octets else if continuing then None else None)
only_next first continuing octets = grind arith

pub incomplete_next : (list : List (List ℕ)) (next : List ℕ) → incomplete_of (list ++ next ∷ []) ≡ incomplete_after (incomplete_of list) next
incomplete_next [] next =
    ap (λ l. if flags_of next == 1 && true then if_fits l else None) (append-nil (segment_data next))
    ∙ only_next (flags_of next == 1) (flags_of next == 0) (if_fits (segment_data next))
incomplete_next (segment ∷ later) next =
    let first = flags_of segment == 1 in
    let goes_on = are_continuing later in
    let together = if_fits (reassembled (segment ∷ later)) in
    let all = if_fits (reassembled (segment ∷ (later ++ next ∷ []))) in
    let rest = incomplete_of (later ++ next ∷ []) in
    ap (λ b. if first && b then all else rest) (are_continuing-push later next)
    ∙ ap (λ b. if b then all else rest) (sym (and_assoc first goes_on (are_continuing (next ∷ []))))
    ∙ ap (λ o. if (first && goes_on) && are_continuing (next ∷ []) then o else rest)
    (ap if_fits (reassembled-push (segment ∷ later) next) ∙ sym (extended_fits (reassembled (segment ∷ later)) (segment_data next)))
    ∙ ap (λ o. if (first && goes_on) && are_continuing (next ∷ []) then extended together (segment_data next) else o) (incomplete_next later next)
    ∙ one_more_after (first && goes_on) together (incomplete_of later) next

-- ---- the series that ends with the next segment

-- the series that ends with the next segment, as a list of one or none, where `before` segments come before the list
abbrev pub series_ending : ℕ → List (List ℕ) → List ℕ → List SeriesAt
series_ending before [] next = if flags_of next == 3 then series_at before (next ∷ []) ∷ [] else []
series_ending before (segment ∷ later) next =
    if (flags_of segment == 1 && are_continuing later) && flags_of next == 2 then series_at before (segment ∷ (later ++ next ∷ [])) ∷ []
    else series_ending (before + 1) later next

-- The next segment completes no series whose later segments aren't all continuing ones. It completes no series at all
-- where it isn't a last segment.
completed-push : (so_far later : List (List ℕ)) (next : List ℕ) → (are_continuing later && flags_of next == 2) ≡ false
    → completed so_far (later ++ next ∷ []) ≡ completed so_far later
completed-push so_far [] next test =
    elim (eqb_tells (flags_of next) 0) [
      | inl (zero_test, is) ↦ completed_continuing so_far next [] is
      | inr (zero_test, not_0) ↦ completed_other so_far next [] not_0 (λ is. let both : true ≡ false = sym (eq-eqb (flags_of next) 2 is) ∙ test in cc)
    ]
completed-push so_far (segment ∷ later) next test =
    elim (eqb_tells (flags_of segment) 0) [
      | inl (zero_test, is) ↦
          completed_continuing so_far segment (later ++ next ∷ []) is
          ∙ completed-push (so_far ++ segment ∷ []) later next (sym (ap (λ b. (b && are_continuing later) && flags_of next == 2) zero_test) ∙ test)
          ∙ sym (completed_continuing so_far segment later is)
      | inr (zero_test, not_0) ↦
          elim (eqb_tells (flags_of segment) 2) [
            | inl (two_test, is) ↦ completed_last so_far segment (later ++ next ∷ []) is ∙ sym (completed_last so_far segment later is)
            | inr (two_test, not_2) ↦
                completed_other so_far segment (later ++ next ∷ []) not_0 not_2 ∙ sym (completed_other so_far segment later not_0 not_2)
          ]
    ]

series_with-push : (segment : List ℕ) (later : List (List ℕ)) (next : List ℕ) → ((flags_of segment == 1 && are_continuing later) && flags_of next == 2) ≡ false
    → series_with segment (later ++ next ∷ []) ≡ series_with segment later
series_with-push segment later next test = grind (arith, eqb_tells, begins_whole, begins_divided, completed-push, begins_none)

-- continuing segments are no series
completed_none : (so_far later : List (List ℕ)) → AllByRecursion IsContinuing later → completed so_far later ≡ []
completed_none so_far [] each = refl
completed_none so_far (segment ∷ later) each = completed_continuing so_far segment later each.0 ∙ completed_none (so_far ++ segment ∷ []) later each.1

continuing_none : (before : ℕ) (later : List (List ℕ)) → AllByRecursion IsContinuing later → series_from before later ≡ []
continuing_none before [] each = refl
continuing_none before (segment ∷ later) each = grind (arith, begins_none, continuing_none (before + 1) later each.1)

ending_none : (before : ℕ) (later : List (List ℕ)) (next : List ℕ) → AllByRecursion IsContinuing later → flags_of next ≡ 2 → series_ending before later next ≡ []
ending_none before [] next each last = ap (λ flags. if flags == 3 then series_at before (next ∷ []) ∷ [] else []) last
ending_none before (segment ∷ later) next each last = grind (arith, ending_none (before + 1) later next each.1 last)

ends_first : (before : ℕ) (next : List ℕ) → map (series_at before) (series_with next []) ++ [] ≡ series_ending before [] next
ends_first before next = grind arith

ends_here : (before : ℕ) (segment : List ℕ) (later : List (List ℕ)) (next : List ℕ) → flags_of segment ≡ 1 → AllByRecursion IsContinuing later → flags_of next ≡ 2
    → map (series_at before) (series_with segment (later ++ next ∷ [])) ++ (series_from (before + 1) later ++ series_ending (before + 1) later next)
    ≡ (map (series_at before) (series_with segment later) ++ series_from (before + 1) later) ++ series_at before (segment ∷ (later ++ next ∷ [])) ∷ []
ends_here before segment later next first each last =
    let now : series_with segment (later ++ next ∷ []) ≡ (segment ∷ (later ++ next ∷ [])) ∷ [] =
    begins_divided segment (later ++ next ∷ []) first
    ∙ ap (completed (segment ∷ [])) (sym (append-nil (later ++ next ∷ []))) ∙ completed_all (segment ∷ []) later next [] each last in
    let earlier : series_with segment later ≡ [] = begins_divided segment later first ∙ completed_none (segment ∷ []) later each in
    ap (λ l. map (series_at before) l ++ (series_from (before + 1) later ++ series_ending (before + 1) later next)) now
    ∙ ap₂ (λ xs ys. series_at before (segment ∷ (later ++ next ∷ [])) ∷ (xs ++ ys)) (continuing_none (before + 1) later each) (ending_none (before + 1) later next each last)
    ∙ sym (ap₂ (λ xs ys. (map (series_at before) xs ++ ys) ++ series_at before (segment ∷ (later ++ next ∷ [])) ∷ []) earlier (continuing_none (before + 1) later each))

-- the series with one more segment are those before, and the one that ends with this segment
pub series_next : (before : ℕ) (list : List (List ℕ)) (next : List ℕ) → series_from before (list ++ next ∷ []) ≡ series_from before list ++ series_ending before list next
series_next before [] next = ends_first before next
series_next before (segment ∷ later) next = grind (arith, and_parts, ends_here, eqb-true, continuing_each, series_with-push, append_assoc, series_next (before + 1) later next)

-- ---- where series end

pub series_within : (list : List (List ℕ)) (s : SeriesAt) → IsSeriesOf list s → past s ≤ length list
series_within list s is_series = grind (arith, length-append)

pub each_ending : (number before : ℕ) (list : List (List ℕ)) (next : List ℕ) → number ≡ before + length list + 1
    → AllByRecursion (λ (s : SeriesAt). (past s == number) ≡ true) (series_ending before list next)
each_ending number before [] next number_is = grind (arith, eq-eqb)
each_ending number before (segment ∷ later) next number_is = grind (arith, eq-eqb, length_push, each_ending number (before + 1) later next (omega (arith, number_is)))

pub ending_is : (list : List (List ℕ)) (next : List ℕ)
    → filter (λ (s : SeriesAt). past s == length list + 1) (series_of (list ++ next ∷ [])) ≡ series_ending 0 list next
ending_is list next = grind (arith, series_next, filter-append, filter_none, each-weaker, ne_eqb, series_within, each_is_series, filter_all, each_ending)

-- ---- the packets

pub packets_next : (list : List (List ℕ)) (next : List ℕ) → packets_of_segments (list ++ next ∷ []) ≡ packets_of_segments list ++ packets_ended list next
packets_next list next =
    let packets = λ (s : SeriesAt). packets_of_series s.segments in
    ap (flat_map packets) (series_next 0 list next) ∙ flat_map-append packets (series_of list) (series_ending 0 list next)
    ∙ ap (λ l. packets_of_segments list ++ flat_map packets l) (sym (ending_is list next))
