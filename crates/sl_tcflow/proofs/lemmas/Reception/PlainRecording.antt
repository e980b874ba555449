-- The packets that a recording delivers on a virtual channel without segment headers are on MAP 0 and fit in a data
-- field.
use Rattle.std.proofs.Common.{◌≡◌, ℕ, ◌+◌, ◌*◌, ◌<◌, ◌≤◌, ◌==◌, nat_le, Bool, true, false, not, if◌then◌else◌, List, [], ◌∷◌, ◌++◌, length, map, flat_map, Result, Ok, Err, sym, ◌∙◌, ap, subst, arith, append-nil, length-append, length-take}
use Rattle.std.specs.Result.{result_ok}
use Rattle.std.specs.List.{AllByRecursion, concat, cons_option, slice_index_or}
use Rattle.std.proofs.lemmas.Bool.Decides.{leb_tells}
use Rattle.sl_fields.specs.SegmentHeader.{SegmentFields}
use Rattle.sl_cop.specs.declared.verdict.Verdict.{Verdict}
use Rattle.sl_cop.specs.Accepted.{accepted_by, if_accepted}
use Rattle.sl_cop.specs.Farm.{farm_start, verdicts_of}
use Rattle.sl_packet.specs.Packet.{is_idle_packet}
use Rattle.sl_packet.specs.Packets.{packets_of, rest_of, without_idle}
use Rattle.sl_packet.proofs.PacketsLemmas.{each_has_packets}
use Rattle.sl_tcframe.specs.AdFrame.{plain_room_of}
use Rattle.sl_tcframe.specs.TcDelimited.{tc_frames_of}
use Rattle.sl_tcframe.specs.TcFrame.{TcFormat, TcView, Content, IsReadAs, Carries, tc_header_of, tc_parts_of, tc_frame}
use Rattle.sl_tcframe.specs.declared.tc_frame.TcSkip.{TcSkip}
use Rattle.sl_tcframe.specs.declared.tc_frame.TcSkip.TheVariants.{Long}
use Rattle.sl_tcframe.proofs.ReadLemmas.{is_read}
use Rattle.sl_tcflow.specs.AcceptedUnit.{accepted_units, views_on, events_of, unit_of, views_of}
use Rattle.sl_tcflow.specs.FormDelivery.{RecordedListsFit}
use Rattle.sl_tcflow.specs.Reception.{packets_of_series, packets_of_segments, segments_of}
use Rattle.sl_tcflow.specs.ReceptionParameters.{ReceptionParameters, is_plain, initial_vr}
use Rattle.sl_tcflow.specs.Recording.{recorded_views, tc_lists}
use Rattle.sl_tcflow.specs.Series.{SeriesAt, reassembled, segment_in, segments_on, series_from, whole_segment}
use Rattle.sl_fields.proofs.ListLemmas.{each-append, each-filter, each-weaker}
use Rattle.sl_tcflow.proofs.lemmas.Reception.Reordered.{recorded_on}
use Rattle.sl_tcflow.proofs.lemmas.Series.Segment.{octets_of_unit}
use Rattle.sl_tcflow.proofs.lemmas.Series.Listed.{begins_whole, series_at}
use Rattle.sl_tcflow.proofs.lemmas.Series.Whole.{all_segments, header_of_whole, no_segments}

-- ---- the units of frames

-- each unit has `most` octets at most
abbrev AreWithin : ℕ → List (List ℕ) → Type 0
AreWithin most units = AllByRecursion (λ unit. length unit ≤ most) units

field_within : (format : TcFormat) (frame : List ℕ) → length frame ≤ format.max → length (tc_parts_of format frame).field ≤ plain_room_of format
field_within format frame short = grind (arith, length-take)

carried_within : (format : TcFormat) (frame : List ℕ) (content : Content) → length frame ≤ format.max
    → Carries (tc_header_of frame) (tc_parts_of format frame).field content → AreWithin (plain_room_of format) (unit_of content)
carried_within format frame content short is = grind (arith, field_within)

abbrev IsViewWithin : ℕ → TcView → Type 0
IsViewWithin most view = AreWithin most (unit_of view.content)

not_long : (format : TcFormat) (frame : List ℕ) → (format.max < length frame → ⊥) → length frame ≤ format.max
not_long format frame not = grind (arith, leb_tells)

views_if : (format : TcFormat) (spacecraft : ℕ) (frame : List ℕ) (read : Result TcView TcSkip) (views : List TcView) → IsReadAs format spacecraft frame read
    → AllByRecursion (IsViewWithin (plain_room_of format)) views → AllByRecursion (IsViewWithin (plain_room_of format)) (cons_option (result_ok read) views)
views_if format spacecraft frame (Ok view) views is each =
    (carried_within format frame view.content (not_long format frame (is.0 Long)) is.2, each)
views_if format spacecraft frame (Err reason) views is each = each

each_view : (format : TcFormat) (spacecraft : ℕ) (frames : List (List ℕ)) → AllByRecursion (IsViewWithin (plain_room_of format)) (views_of format spacecraft frames)
each_view format spacecraft [] = tt
each_view format spacecraft (frame ∷ frames) =
    views_if format spacecraft frame (tc_frame format spacecraft frame) (views_of format spacecraft frames) (is_read format spacecraft frame) (each_view format spacecraft frames)

if_within : (most : ℕ) (verdict : Verdict) (units : List (List ℕ)) → AreWithin most units → AreWithin most (if_accepted verdict units)
if_within most verdict units each = grind arith

accepted_within : (most : ℕ) (verdicts : List Verdict) (channel : List TcView) → AllByRecursion (IsViewWithin most) channel
    → AreWithin most (accepted_by (λ (view : TcView). unit_of view.content) verdicts channel)
accepted_within most [] channel each = tt
accepted_within most (verdict ∷ verdicts) [] each = tt
accepted_within most (verdict ∷ verdicts) (view ∷ channel) each = grind (arith, each-append, if_within, accepted_within most verdicts channel each.1)

-- the units of a recording's frames on a virtual channel
units_within : (format : TcFormat) (spacecraft : ℕ) (r : ReceptionParameters) (vc : ℕ) (frames : List (List ℕ))
    → AreWithin (plain_room_of format) (accepted_units r.window (initial_vr r vc) (views_on vc (views_of format spacecraft frames)))
units_within format spacecraft r vc frames =
    let views = views_of format spacecraft frames in
    let channel = views_on vc views in
    accepted_within (plain_room_of format) (verdicts_of r.window (farm_start (initial_vr r vc)) (events_of channel)) channel
    (each-filter (IsViewWithin (plain_room_of format)) (IsViewWithin (plain_room_of format)) (λ view. view.vc == vc) (λ view exceeds_limit is. is) views (each_view format spacecraft frames))

-- no packet has more octets than the list of packets end to end
each_within : (packets : List (List ℕ)) → AreWithin (length (concat packets)) packets
each_within [] = tt
each_within (packet ∷ packets) = grind (arith, length-append, each-weaker, each_within packets)

packets_are_within : (most : ℕ) (octets : List ℕ) → length octets ≤ most → AreWithin most (packets_of octets)
packets_are_within most octets few =
    let has = each_has_packets octets in
    let size = length-append (concat (packets_of octets)) (rest_of octets) in
    each-weaker (λ p. length p ≤ length (concat (packets_of octets))) (λ p. length p ≤ most)
    (λ p low. omega (arith, low, few, size, ap length has.end_to_end)) (packets_of octets) (each_within (packets_of octets))

packets_if : (most : ℕ) (fits : Bool) (octets : List ℕ) → length octets ≤ most → AreWithin most (if fits then packets_of octets else [])
packets_if most true octets few = packets_are_within most octets few
packets_if most false octets few = tt

-- no packet of whole segments has more octets than a unit may have
packets_of_whole : (most n : ℕ) (units : List (List ℕ)) → AreWithin most units
    → AreWithin most (flat_map (λ (s : SeriesAt). packets_of_series s.segments) (series_from n (map whole_segment units)))
packets_of_whole most n [] each = tt
packets_of_whole most n (unit ∷ units) each =
    let later = map whole_segment units in
    let carried : List SeriesAt → List (List ℕ) = flat_map (λ (s : SeriesAt). packets_of_series s.segments) in
    let one : reassembled (whole_segment unit ∷ []) ≡ unit = append-nil _ ∙ octets_of_unit (record { flags = 3; map = 0 }, unit) in
    let first : AreWithin most (packets_of_series (whole_segment unit ∷ [])) =
    packets_if most (nat_le (length (reassembled (whole_segment unit ∷ []))) 65542) (reassembled (whole_segment unit ∷ [])) (omega (arith, ap length one, each.0)) in
    subst (λ l. AreWithin most (carried (map (series_at n) l ++ series_from (n + 1) later)))
    (sym (begins_whole (whole_segment unit) later (ap (λ (h : SegmentFields). h.flags) (header_of_whole unit))))
    (each-append (λ p. length p ≤ most) (packets_of_series (whole_segment unit ∷ [])) (carried (series_from (n + 1) later)) first (packets_of_whole most (n + 1) units each.1))

-- ---- recordings

module _ (format : TcFormat) (spacecraft : ℕ) (r : ReceptionParameters) (recording : List ℕ) where
  abbrev views : List TcView
  views = recorded_views format spacecraft recording

  plain_short : (b : Bool) (units : List (List ℕ)) → b ≡ true → AreWithin (plain_room_of format) units
      → AreWithin (plain_room_of format) (packets_of_segments (segments_on 0 (map (segment_in b) units)))
  plain_short false units is each = absurd (cc)
  plain_short true units is each = subst (λ l. AreWithin (plain_room_of format) (packets_of_segments l)) (sym (all_segments units)) (packets_of_whole (plain_room_of format) 0 units each)

  plain_others : (b : Bool) (map_id : ℕ) (units : List (List ℕ)) → b ≡ true → 0 < map_id → packets_of_segments (segments_on map_id (map (segment_in b) units)) ≡ []
  plain_others false map_id units is other = absurd (cc)
  plain_others true map_id units is other = ap packets_of_segments (no_segments map_id units other)

pub recorded_lists_fit : RecordedListsFit
recorded_lists_fit format spacecraft r recording vc vc_fits plain =
    let frames = tc_frames_of format recording in
    let views : List TcView = recorded_views format spacecraft recording in
    let units = accepted_units r.window (initial_vr r vc) (views_on vc views) in
    let same : 64 * vc + 0 ≡ 64 * vc = omega arith in
    record {
      short = subst (λ n. AreWithin (plain_room_of format) (slice_index_or (tc_lists format spacecraft r recording) n [])) same
          (subst (AreWithin (plain_room_of format)) (sym (recorded_on format spacecraft r vc 0 recording vc_fits (omega arith)))
          (each-filter (λ p. length p ≤ plain_room_of format) (λ p. length p ≤ plain_room_of format) (λ packet. not (is_idle_packet packet)) (λ packet exceeds_limit is. is) (packets_of_segments (segments_of r vc 0 views))
          (plain_short format spacecraft r recording (is_plain r vc) units plain (units_within format spacecraft r vc frames))));
      others = λ map_id some map_id_fits.
          recorded_on format spacecraft r vc map_id recording vc_fits map_id_fits
          ∙ ap without_idle (plain_others format spacecraft r recording (is_plain r vc) map_id units plain some);
    }
