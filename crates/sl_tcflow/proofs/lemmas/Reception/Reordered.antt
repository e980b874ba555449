-- Units in frames of type AD that arrive in any order: the accepted ones, and the packets that they carry.
use Rattle.std.proofs.Common.{◌≡◌, ℕ, zero, suc, ◌+◌, ◌/◌, ◌%◌, ◌<◌, ◌≤◌, ◌==◌, not, List, [], ◌∷◌, ◌++◌, length, get_or, map, take, drop, refl, sym, ◌∙◌, ap, ap₂, subst, arith, append-nil, append_assoc}
use Rattle.std.specs.List.{AllByRecursion, AllZip, range_with_len}
use mathlib.Core.List.{IsPrefix}
use Rattle.std.proofs.Math.Seq.{take-suc}
use Rattle.std.proofs.lemmas.List.{length-map, map-append, take-append-drop}
use Rattle.std.proofs.lemmas.List.Elements.{filter-append}
use Rattle.std.proofs.lemmas.List.FromFn.{get_or-map-range_with_len, map-range_with_len_more}
use Rattle.sl_cop.specs.declared.verdict.Verdict.{Verdict}
use Rattle.sl_cop.specs.Accepted.{if_accepted, accepted_by}
use Rattle.sl_cop.specs.Farm.{FarmView, farm_start, state_after, verdicts_of}
use Rattle.sl_cop.specs.Reordered.{Arrival, accepted_count, accepted_indices, event_at, events_at, index_of, ns_of, state_at}
use Rattle.sl_cop.proofs.FarmLemmas.{each_has_step}
use Rattle.sl_cop.proofs.ReorderedLemmas.{accepted_in_order, accepted_where_expected, no_distance, vr_counts_accepted, in_window_are_near, window_keeps_open}
use Rattle.sl_packet.specs.Delivered.{channel_count}
use Rattle.sl_packet.specs.Packet.{is_idle_packet}
use Rattle.sl_packet.specs.Packets.{without_idle}
use Rattle.sl_tcframe.specs.TcFrame.{TcFormat, TcView, Content, Bd}
use Rattle.sl_tcflow.specs.AcceptedUnit.{accepted_ad_units, ad_unit_of, views_on, event_of, events_of, farm_after, unit_of}
use Rattle.sl_tcflow.specs.Reception.{packets_of_segments, segments_of}
use Rattle.sl_tcflow.specs.ReceptionParameters.{ReceptionParameters, is_plain, initial_vr}
use Rattle.sl_tcflow.specs.Recording.{channel_at, map_channels, packets_of_channel, recorded_views}
use Rattle.sl_tcflow.specs.ReorderedUnits.{AdUnitsAreAll, AreArrivals, ExpectedUnitIsAccepted, HaveNoBd, IsArrival, PacketsInOrder, ReceiverCountsUnits, RecordedPacketsInOrder, UnitsInOrder, VrCountsUnits, WindowIsNear, WindowNeverLocks, accepted_ad_count, recorded_packets, unit_at, segments_sent}
use Rattle.sl_tcflow.specs.Series.{header_at, segment_in, segments_on}
use Rattle.sl_fields.proofs.ListLemmas.{each-append}
use Rattle.sl_tcflow.proofs.lemmas.Series.OneMore.{packets_next}

-- ---- lists

-- the elements with the first indices are the first elements
taken : {A : Type 0} (list : List A) (d : A) (n : ℕ) → n ≤ length list → map (λ k. get_or list k d) (range_with_len 0 n) ≡ take n list
taken list d zero fits = refl
taken list d (suc n) fits =
    let one_more : suc n ≡ n + 1 = omega arith in
    let last : 0 + n ≡ n = omega arith in
    ap (λ k. map (λ k. get_or list k d) (range_with_len 0 k)) one_more
    ∙ map-range_with_len_more (λ k. get_or list k d) 0 n n last
    ∙ ap (λ l. l ++ get_or list n d ∷ []) (taken list d n (omega arith))
    ∙ sym (take-suc list n d (omega arith))

range_fits : (from n most : ℕ) → from ≤ most → AllByRecursion (λ k. k < most) (range_with_len from n) → from + n ≤ most
range_fits from zero most start each = omega arith
range_fits from (suc n) most start each = let first = each.0 in let later = range_fits (from + 1) n most (omega arith) each.1 in omega arith

-- the arrivals of the first frames
parts : {A B : Type 0} (R : A → B → Type 0) (before after : List A) (list : List B) → AllZip R (before ++ after) list
    → (earlier : List B) × (later : List B) × (list ≡ earlier ++ later) × AllZip R before earlier
parts R [] after list are = ([], list, refl, tt)
parts R (first ∷ before) after [] are = absurd are
parts R (first ∷ before) after (other ∷ list) are =
    let more = parts R before after list are.1 in
    (other ∷ more.0, more.1, ap (λ l. other ∷ l) more.2, (are.0, more.3))

-- ---- the accepted units

map-if_accepted : {A B : Type 0} (f : A → B) (verdict : Verdict) (list : List A) → map f (if_accepted verdict list) ≡ if_accepted verdict (map f list)
map-if_accepted f verdict list = grind arith

each-if_accepted : {A : Type 0} (P : A → Type 0) (verdict : Verdict) (list : List A) → AllByRecursion P list → AllByRecursion P (if_accepted verdict list)
each-if_accepted P verdict list each = grind arith

module _ (vr : ℕ) (sent : List (List ℕ)) where
  same_event : (view : TcView) (arrival : Arrival) → IsArrival vr sent view arrival → event_of view.content ≡ event_at vr arrival
  same_event view arrival is = grind arith

  same_events : (channel : List TcView) (arrivals : List Arrival) → AreArrivals vr sent channel arrivals → events_of channel ≡ events_at vr arrivals
  same_events [] [] are = refl
  same_events [] (arrival ∷ arrivals) are = absurd are
  same_events (view ∷ channel) [] are = absurd are
  same_events (view ∷ channel) (arrival ∷ arrivals) are = grind (arith, same_event, same_events channel arrivals are.1)

  same_unit : (view : TcView) (arrival : Arrival) → IsArrival vr sent view arrival → ad_unit_of view.content ≡ map (unit_at sent) (index_of arrival)
  same_unit view arrival is = grind arith

  same_units : (verdicts : List Verdict) (channel : List TcView) (arrivals : List Arrival) → AreArrivals vr sent channel arrivals
      → accepted_by (λ (view : TcView). ad_unit_of view.content) verdicts channel ≡ map (unit_at sent) (accepted_by index_of verdicts arrivals)
  same_units [] channel arrivals are = refl
  same_units (verdict ∷ verdicts) [] [] are = refl
  same_units (verdict ∷ verdicts) [] (arrival ∷ arrivals) are = absurd are
  same_units (verdict ∷ verdicts) (view ∷ channel) [] are = absurd are
  same_units (verdict ∷ verdicts) (view ∷ channel) (arrival ∷ arrivals) are = grind (arith, same_unit, map-if_accepted, map-append, same_units verdicts channel arrivals are.1)

  index_fits : (view : TcView) (arrival : Arrival) → IsArrival vr sent view arrival → AllByRecursion (λ k. k < length sent) (index_of arrival)
  index_fits view arrival is = grind arith

  indices_fit : (verdicts : List Verdict) (channel : List TcView) (arrivals : List Arrival) → AreArrivals vr sent channel arrivals
      → AllByRecursion (λ k. k < length sent) (accepted_by index_of verdicts arrivals)
  indices_fit [] channel arrivals are = tt
  indices_fit (verdict ∷ verdicts) [] [] are = tt
  indices_fit (verdict ∷ verdicts) [] (arrival ∷ arrivals) are = absurd are
  indices_fit (verdict ∷ verdicts) (view ∷ channel) [] are = absurd are
  indices_fit (verdict ∷ verdicts) (view ∷ channel) (arrival ∷ arrivals) are = grind (arith, each-append, each-if_accepted, index_fits, indices_fit verdicts channel arrivals are.1)

  module _ (w : ℕ) (channel : List TcView) (arrivals : List Arrival) (are : AreArrivals vr sent channel arrivals) where
    units_are : accepted_ad_units w vr channel ≡ map (unit_at sent) (accepted_indices w vr arrivals)
    units_are =
        ap (λ events. accepted_by (λ (view : TcView). ad_unit_of view.content) (verdicts_of w (farm_start vr) events) channel) (same_events channel arrivals are)
        ∙ same_units (verdicts_of w (farm_start vr) (events_at vr arrivals)) channel arrivals are

    as_many : accepted_ad_count w vr channel ≡ accepted_count w vr arrivals
    as_many = ap (λ l. length l) units_are ∙ length-map (accepted_indices w vr arrivals) (unit_at sent)

    same_state : farm_after w vr channel ≡ state_at w vr arrivals
    same_state = ap (λ events. state_after w (farm_start vr) events) (same_events channel arrivals are)

-- ---- without frames of type BD

own_unit : (content : Content) → ((unit : List ℕ) → content ≡ Bd unit → ⊥) → ad_unit_of content ≡ unit_of content
own_unit content none = grind arith

are_all : (verdicts : List Verdict) (channel : List TcView) → HaveNoBd channel
    → accepted_by (λ (view : TcView). ad_unit_of view.content) verdicts channel ≡ accepted_by (λ (view : TcView). unit_of view.content) verdicts channel
are_all [] channel none = refl
are_all (verdict ∷ verdicts) [] none = refl
are_all (verdict ∷ verdicts) (view ∷ channel) none = grind (arith, own_unit, are_all verdicts channel none.1)

pub ad_units_are_all : AdUnitsAreAll
ad_units_are_all w vr channel none = are_all (verdicts_of w (farm_start vr) (events_of channel)) channel none

-- ---- the laws

pub window_is_near : WindowIsNear
window_is_near w vr sent channel arrivals reordered = grind (arith, in_window_are_near)

pub units_in_order : UnitsInOrder
units_in_order w vr sent channel arrivals reordered =
    let n = accepted_count w vr arrivals in
    let order = accepted_in_order w vr arrivals reordered.initial reordered.near in
    let each = indices_fit vr sent (verdicts_of w (farm_start vr) (events_at vr arrivals)) channel arrivals reordered.arrive in
    let fits : n ≤ length sent =
    let fits' : 0 + n ≤ length sent = range_fits 0 n (length sent) (omega arith) (subst (AllByRecursion (λ k. k < length sent)) order each) in omega (arith, fits') in (
      drop n sent,
      ap (λ l. l ++ drop n sent) (units_are vr sent w channel arrivals reordered.arrive ∙ ap (map (unit_at sent)) order ∙ taken sent [] n fits)
          ∙ take-append-drop n sent,
    )

pub vr_counts_units : VrCountsUnits
vr_counts_units w vr sent channel arrivals reordered before after split =
    let part = parts (IsArrival vr sent) before after arrivals (subst (λ l. AreArrivals vr sent l arrivals) split reordered.arrive) in
    ap (λ s. s.vr) (same_state vr sent w before part.0 part.3)
    ∙ vr_counts_accepted w vr arrivals reordered.initial reordered.near part.0 part.1 part.2
    ∙ ap (ns_of vr) (sym (as_many vr sent w before part.0 part.3))

pub window_never_locks : WindowNeverLocks
window_never_locks w vr sent channel arrivals reordered before after split =
    let part = parts (IsArrival vr sent) before after arrivals (subst (λ l. AreArrivals vr sent l arrivals) split reordered.arrive) in
    ap (λ s. s.lockout) (same_state vr sent w before part.0 part.3)
    ∙ window_keeps_open w vr arrivals reordered.initial reordered.most reordered.within part.0 part.1 part.2

pub expected_unit_is_accepted : ExpectedUnitIsAccepted
expected_unit_is_accepted w vr sent channel arrivals reordered before after view split copy = grind (arith, vr_counts_units, window_is_near, no_distance, accepted_where_expected, window_never_locks, each_has_step)

pub receiver_counts_units : ReceiverCountsUnits
receiver_counts_units r vc sent farms views arrivals below stepped reordered =
    let channel = views_on vc views in
    let counts = vr_counts_units r.window (initial_vr r vc) sent channel arrivals reordered channel [] (sym (append-nil channel)) in
    ap (λ (f : FarmView). f.state.vr) (stepped.each vc below) ∙ counts

-- ---- packets

-- the packets of more segments begin with those of the first ones
packets_go_on : (list more : List (List ℕ)) → IsPrefix (packets_of_segments list) (packets_of_segments (list ++ more))
packets_go_on list [] = ([], append-nil (packets_of_segments list) ∙ ap packets_of_segments (sym (append-nil list)))
packets_go_on list (next ∷ more) = grind (arith, append_assoc, packets_next, packets_go_on (list ++ next ∷ []) more)

pub packets_in_order : PacketsInOrder
packets_in_order r vc map_id sent views arrivals reordered none =
    let channel = views_on vc views in
    let units = accepted_ad_units r.window (initial_vr r vc) channel in
    let front = units_in_order r.window (initial_vr r vc) sent channel arrivals reordered in
    let segment = segment_in (is_plain r vc) in
    let own : segments_on map_id (map segment units) ≡ segments_of r vc map_id views =
    ap (λ l. segments_on map_id (map segment l)) (ad_units_are_all r.window (initial_vr r vc) channel none) in
    let all : segments_on map_id (map segment units) ++ segments_on map_id (map segment front.0) ≡ segments_sent r vc map_id sent =
    sym (filter-append (λ segment. (header_at segment).map == map_id) (map segment units) (map segment front.0))
    ∙ ap (segments_on map_id) (sym (map-append segment units front.0) ∙ ap (map segment) front.1) in
    let later = packets_go_on (segments_on map_id (map segment units)) (segments_on map_id (map segment front.0)) in
    (later.0, ap (λ l. packets_of_segments l ++ later.0) (sym own) ∙ later.1 ∙ ap packets_of_segments all)

-- ---- recordings

-- the list of a virtual channel and MAP
pub recorded_on : (format : TcFormat) (spacecraft : ℕ) (r : ReceptionParameters) (vc map_id : ℕ) (recording : List ℕ) → vc < 64 → map_id < 64
    → recorded_packets format spacecraft r vc map_id recording ≡ without_idle (packets_of_segments (segments_of r vc map_id (recorded_views format spacecraft recording)))
unfolding map_channels
recorded_on format spacecraft r vc map_id recording vc_fits map_id_fits =
    let views : List TcView = recorded_views format spacecraft recording in
    let below : channel_at vc map_id < channel_count = omega arith in
    let here : 0 + channel_at vc map_id ≡ channel_at vc map_id = omega arith in
    let vc_is : channel_at vc map_id / 64 ≡ vc = omega arith in
    let map_id_is : channel_at vc map_id % 64 ≡ map_id = omega arith in
    get_or-map-range_with_len (λ channel. without_idle (packets_of_channel r views channel)) 0 channel_count (channel_at vc map_id) (channel_at vc map_id) [] below here
    ∙ ap₂ (λ v m. without_idle (packets_of_segments (segments_of r v m views))) vc_is map_id_is

pub recorded_packets_in_order : RecordedPacketsInOrder
recorded_packets_in_order format spacecraft r vc map_id sent recording arrivals vc_fits map_id_fits reordered none =
    let views : List TcView = recorded_views format spacecraft recording in
    let front = packets_in_order r vc map_id sent views arrivals reordered none in (
      without_idle front.0,
      ap (λ l. l ++ without_idle front.0) (recorded_on format spacecraft r vc map_id recording vc_fits map_id_fits)
          ∙ sym (filter-append (λ packet. not (is_idle_packet packet)) (packets_of_segments (segments_of r vc map_id views)) front.0)
          ∙ ap without_idle front.1,
    )
