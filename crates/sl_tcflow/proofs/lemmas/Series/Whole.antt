-- The segments of the units of a virtual channel without segment headers: none of them leaves a series incomplete,
-- and octets that are left are their only anomaly.
use Rattle.std.proofs.Common.{◌≡◌, ℕ, ◌<◌, ◌==◌, ◌&&◌, Bool, true, false, List, [], ◌∷◌, length, map, None, refl, ap, arith, ne_eqb}
use Rattle.std.specs.List.{AllByRecursion}
use Rattle.std.specs.Prelude.{is_none}
use Rattle.sl_fields.specs.SegmentHeader.{SegmentFields}
use Rattle.sl_tcflow.specs.Anomaly.{dropped_of, long_of, number_held, told_of_segment, stray_of, NoPlainSeriesIsIncomplete, PlainUnitHasTailAlone}
use Rattle.sl_tcflow.specs.Incomplete.{incomplete_of, exceeds_limit}
use Rattle.sl_tcflow.specs.Series.{flags_continue, flags_of, header_at, segment_data, segment_in, segments_on, whole_segment, PlainUnitIsWhole}
use Rattle.sl_fields.proofs.ListLemmas.{each-filter}
use Rattle.sl_tcflow.proofs.lemmas.Series.Segment.{header_of_unit, octets_of_unit}

-- ---- a segment

pub header_of_whole : (unit : List ℕ) → header_at (whole_segment unit) ≡ record { flags = 3; map = 0 }
header_of_whole unit = header_of_unit (record { flags = 3; map = 0 }, unit) (record { flags = omega arith; map = omega arith })

flags_of_whole : (unit : List ℕ) → flags_of (whole_segment unit) ≡ 3
flags_of_whole unit = ap (λ (h : SegmentFields). h.flags) (header_of_whole unit)

pub plain_unit_is_whole : PlainUnitIsWhole
plain_unit_is_whole unit = grind (arith, flags_of_whole, header_of_whole, octets_of_unit)

-- ---- no series is incomplete

abbrev HaveNoSegmentation : List (List ℕ) → Type 0
HaveNoSegmentation segments = AllByRecursion (λ segment. flags_of segment ≡ 3) segments

each_whole : (units : List (List ℕ)) → HaveNoSegmentation (map whole_segment units)
each_whole [] = tt
each_whole (unit ∷ units) = (flags_of_whole unit, each_whole units)

none_incomplete : (segments : List (List ℕ)) → HaveNoSegmentation segments → incomplete_of segments ≡ None
none_incomplete [] each = refl
none_incomplete (segment ∷ later) each = grind (arith, none_incomplete later each.1)

none_on : (plain : Bool) (map_id : ℕ) (units : List (List ℕ)) → plain ≡ true → incomplete_of (segments_on map_id (map (segment_in plain) units)) ≡ None
none_on false map_id units is = absurd (cc)
none_on true map_id units is =
    let segments = map whole_segment units in
    none_incomplete (segments_on map_id segments)
    (each-filter (λ segment. flags_of segment ≡ 3) (λ segment. flags_of segment ≡ 3) (λ segment. (header_at segment).map == map_id) (λ segment exceeds_limit is. is) segments (each_whole units))

pub no_plain_series_is_incomplete : NoPlainSeriesIsIncomplete
no_plain_series_is_incomplete r vc map_id views plain = grind (arith, none_on)

-- ---- octets that are left are the only anomaly

module _ (list : List (List ℕ)) (unit : List ℕ) where
  not_stray : stray_of list (whole_segment unit) ≡ false
  not_stray = ap (λ flags. flags_continue flags && is_none (incomplete_of list)) (flags_of_whole unit)

  none_dropped : incomplete_of list ≡ None → dropped_of list (whole_segment unit) ≡ None
  none_dropped none = grind (arith, flags_of_whole)

  none_long : long_of list (whole_segment unit) ≡ false
  none_long = ap (λ flags. flags_continue flags && exceeds_limit (number_held list) (length (segment_data (whole_segment unit)))) (flags_of_whole unit)

-- the report on the frame's unit, if it is accepted
told_of_whole : {X : Type 0} (none : X) (told : List ℕ → X) → ((unit : List ℕ) → told (whole_segment unit) ≡ none)
    → (plain : Bool) (units : List (List ℕ)) → plain ≡ true → told_of_segment none told (map (segment_in plain) units) ≡ none
told_of_whole none told nothing false units is = absurd (cc)
told_of_whole none told nothing true [] is = refl
told_of_whole none told nothing true (unit ∷ units) is = nothing unit

pub plain_unit_has_tail_alone : PlainUnitHasTailAlone
plain_unit_has_tail_alone r views next plain = search (arith, no_plain_series_is_incomplete, told_of_whole, not_stray, none_dropped, none_long)

-- ---- whole segments

-- whole segments are on no other MAP than 0
pub no_segments : (map_id : ℕ) (units : List (List ℕ)) → 0 < map_id → segments_on map_id (map whole_segment units) ≡ []
no_segments map_id [] other = refl
no_segments map_id (unit ∷ units) other = grind (arith, header_of_whole, ne_eqb, no_segments map_id units other)

-- whole segments are all on MAP 0
pub all_segments : (units : List (List ℕ)) → segments_on 0 (map whole_segment units) ≡ map whole_segment units
all_segments [] = refl
all_segments (unit ∷ units) = grind (arith, header_of_whole, all_segments units)
