-- The frames of the normal form carry its packets, each in a series of its own.
use Rattle.std.proofs.Common.{◌≡◌, ℕ, zero, suc, ◌+◌, ◌*◌, ◌<◌, ◌≤◌, Bool, true, false, List, [], ◌∷◌, length, drop, map, flat_map, refl, sym, ◌∙◌, ap, subst, arith, append-nil, length-drop, length-take-le}
use Rattle.std.specs.List.{AllByRecursion, slice_index_or}
use Rattle.std.proofs.lemmas.List.{map-id}
use Rattle.sl_packet.specs.Delivered.{IsDeliverable, channel_count}
use Rattle.sl_packet.specs.Packet.{IsPacket}
use Rattle.sl_packet.proofs.WithoutIdleLemmas.{due_packets}
use Rattle.sl_tcframe.specs.AdFrame.{plain_room_of, segment_room_of}
use Rattle.sl_tcframe.specs.TcFrame.{TcFormat, TcView}
use Rattle.sl_tcframe.specs.VcSet.{has_vc}
use Rattle.sl_tcflow.specs.AcceptedUnit.{unit_of}
use Rattle.sl_tcflow.specs.FormDelivery.{AreDeliverable}
use Rattle.sl_tcflow.specs.Fits.{FitsOn}
use Rattle.sl_tcflow.specs.FormOrder.{CarryPackets, EachPacketIsOneSeries, none, more, room_in, segments_carried}
use Rattle.sl_tcflow.specs.Series.{whole, segment_data, segment_in, segments_on, whole_segment}
use Rattle.sl_tcflow.specs.TcNormalForm.{AreSegments, IsDividedInto, last, units_of_maps, units_of_packet}
use Rattle.sl_fields.proofs.ListLemmas.{each-at}
use Rattle.sl_tcflow.proofs.lemmas.Form.Frames.{lists_on, some_room, views_from}
use Rattle.sl_tcflow.proofs.lemmas.Form.Order.{own_views, units}
use Rattle.sl_tcflow.proofs.lemmas.Form.Plain.{first_on, list_on, others_empty}
use Rattle.sl_tcflow.proofs.lemmas.Series.Divided.{each_is_divided}
use Rattle.sl_tcflow.proofs.lemmas.Series.Part.{packet_size}
use Rattle.sl_tcflow.proofs.lemmas.Series.Segment.{flat_units, parts_of_map, units_are_packets, units_are_segments}
use Rattle.sl_tcflow.proofs.lemmas.Series.Whole.{all_segments, no_segments, plain_unit_is_whole}

-- the units of the frames, as they are read
units_back : (vc ns : ℕ) (list : List (List ℕ)) → flat_map (λ (view : TcView). unit_of view.content) (views_from vc ns list) ≡ list
units_back vc ns [] = refl
units_back vc ns (unit ∷ list) = ap (λ l. unit ∷ l) (units_back vc (ns + 1) list)

-- with segment headers each packet is divided into its units
packets_are_divided : (room map_id : ℕ) (packets : List (List ℕ)) → 0 < room → map_id < 64 → AllByRecursion IsPacket packets
    → CarryPackets room map_id packets (flat_map (units_of_packet false room map_id) packets)
packets_are_divided room map_id [] some small each = none
packets_are_divided room map_id (packet ∷ packets) some small each =
    more packet (units_of_packet false room map_id packet) packets (flat_map (units_of_packet false room map_id) packets)
    (each_is_divided room map_id packet some small (packet_size packet each.0).0) (packets_are_divided room map_id packets some small each.1)

-- without segment headers each packet is one segment
one_segment : (room : ℕ) (packet : List ℕ) → 0 < length packet → length packet ≤ room → IsDividedInto room 0 packet (whole_segment packet ∷ [])
one_segment room packet some short =
    let is = plain_unit_is_whole packet in
    record {
      filled = subst (λ octets. AreSegments room (octets ∷ [])) (sym is.octets) (last packet some short);
      end_to_end = append-nil (segment_data (whole_segment packet)) ∙ is.octets;
      series = whole (whole_segment packet) is.flags;
      on_map = (is.map, tt);
    }

undivided : (room : ℕ) (packets : List (List ℕ)) → AllByRecursion IsPacket packets → AllByRecursion (λ packet. length packet ≤ room) packets
    → CarryPackets room 0 packets (map whole_segment packets)
undivided room [] each short = none
undivided room (packet ∷ packets) each short =
    more packet (whole_segment packet ∷ []) packets (map whole_segment packets)
    (one_segment room packet (packet_size packet each.0).0 short.0) (undivided room packets each.1 short.1)

-- ---- the segments of a virtual channel and a MAP

module _ (format : TcFormat) (lists : List (List (List ℕ))) (vc : ℕ) (inside : vc < 64) (are : AreDeliverable lists) where
  abbrev list_with : ℕ → List (List ℕ)
  list_with index = slice_index_or lists index []

  are_packets : (index : ℕ) → AllByRecursion IsPacket (list_with index)
  are_packets index = due_packets (list_with index) (each-at (AllByRecursion IsDeliverable) lists index [] tt are.each)

  carried : (b : Bool) (map_id : ℕ) → map_id < 64 → 0 < segment_room_of format → (b ≡ true → FitsOn format lists vc)
      → CarryPackets (room_in b format) map_id (list_with (64 * vc + map_id))
      (segments_on map_id (map (segment_in b) (units_of_maps b (segment_room_of format) 0 (lists_on lists vc))))
  carried false map_id small some fits =
      let room = segment_room_of format in
      let own = lists_on lists vc in
      let all : length lists ≡ channel_count = are.all in
      let size : length own ≡ 64 = length-take-le 64 (drop (64 * vc) lists) (omega (arith, length-drop (64 * vc) lists, all)) in
      let parts : segments_on map_id (map (segment_in false) (units_of_maps false room 0 own)) ≡ flat_map (units_of_packet false room map_id) (slice_index_or own map_id []) =
      ap (segments_on map_id) (map-id (units_of_maps false room 0 own) ∙ units_are_segments room 0 own)
      ∙ parts_of_map room 0 map_id map_id own (omega arith) (omega (arith, size)) (omega (arith, size))
      ∙ sym (flat_units room map_id (slice_index_or own map_id [])) in
      subst (CarryPackets room map_id (list_with (64 * vc + map_id)))
      (sym (parts ∙ ap (flat_map (units_of_packet false room map_id)) (list_on lists vc map_id small)))
      (packets_are_divided room map_id (list_with (64 * vc + map_id)) some small (are_packets (64 * vc + map_id)))
  carried true zero small some fits =
      let fit = fits refl in
      let units : units_of_maps true (segment_room_of format) 0 (lists_on lists vc) ≡ list_with (64 * vc) =
      units_are_packets (segment_room_of format) 0 (lists_on lists vc) (others_empty format lists vc fit) ∙ first_on lists vc in
      let index : 64 * vc ≡ 64 * vc + 0 = omega arith in
      subst (λ n. CarryPackets (plain_room_of format) 0 (list_with n) (segments_on 0 (map whole_segment (units_of_maps true (segment_room_of format) 0 (lists_on lists vc))))) index
      (subst (CarryPackets (plain_room_of format) 0 (list_with (64 * vc))) (sym (ap (λ l. segments_on 0 (map whole_segment l)) units ∙ all_segments (list_with (64 * vc))))
      (undivided (plain_room_of format) (list_with (64 * vc)) (are_packets (64 * vc)) fit.short))
  carried true (suc map_id) small some fits =
      let fit = fits refl in
      let list = units_of_maps true (segment_room_of format) 0 (lists_on lists vc) in
      subst (λ packets. CarryPackets (plain_room_of format) (suc map_id) packets (segments_on (suc map_id) (map whole_segment list))) (sym (fit.others (suc map_id) (omega arith) small))
      (subst (CarryPackets (plain_room_of format) (suc map_id) []) (sym (no_segments (suc map_id) list (omega arith))) none)

pub each_packet_is_one_series : EachPacketIsOneSeries
each_packet_is_one_series format spacecraft starts plain lists can vc map_id inside small =
    let b = has_vc plain vc in
    let own = units format spacecraft starts plain lists can vc in
    let start = slice_index_or starts vc 0 in
    subst (λ views. CarryPackets (room_in b format) map_id (slice_index_or lists (64 * vc + map_id) []) (segments_carried b map_id views))
    (sym (own_views format spacecraft starts plain lists can vc inside))
    (subst (λ l. CarryPackets (room_in b format) map_id (slice_index_or lists (64 * vc + map_id) []) (segments_on map_id (map (segment_in b) l))) (sym (units_back vc start own))
    (carried format lists vc inside can.deliverable b map_id small (some_room format spacecraft can.is_format can.spacecraft_fits) (can.fit vc inside)))
