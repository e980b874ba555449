-- The packets of a virtual channel without segment headers, and their segments.
use Rattle.std.proofs.Common.{◌≡◌, ℕ, zero, suc, ◌+◌, ◌-◌, ◌*◌, ◌<◌, ◌≤◌, Bool, false, true, List, [], ◌∷◌, length, take, drop, map, flat_map, inl, inr, refl, sym, ◌∙◌, ap, subst, arith, length-take, length-take-le}
use Rattle.std.specs.List.{AllByRecursion, range_with_len, slice_index_or}
use Rattle.std.proofs.lemmas.Bool.Decides.{leb_tells}
use Rattle.std.proofs.lemmas.List.{get_or-drop, get_or-take, get_or_past, map-id, take_all}
use Rattle.sl_fields.specs.SegmentHeader.{SegmentFields}
use Rattle.sl_packet.specs.Packet.{IsPacket, longest_packet}
use Rattle.sl_tcframe.specs.AdFrame.{plain_room_of}
use Rattle.sl_tcframe.specs.TcFrame.{TcFormat}
use Rattle.sl_tcflow.specs.Fits.{FitsOn}
use Rattle.sl_tcflow.specs.Reception.{packets_of_segments}
use Rattle.sl_tcflow.specs.Series.{segment_in, segments_on, whole_segment}
use Rattle.sl_tcflow.specs.TcNormalForm.{segment_count, octets_at, flags_at, units_of_maps}
use Rattle.sl_fields.proofs.ListLemmas.{each-at}
use Rattle.sl_tcflow.proofs.lemmas.Series.Part.{packet_size, packets_back}
use Rattle.sl_tcflow.proofs.lemmas.Series.Segment.{on_all, on_none, packets_parts, part_at, parts_of_map, segments_of_packet, unit_made, units_are_packets, units_are_segments}

-- ---- the lists of a virtual channel

abbrev own_lists : List (List (List ℕ)) → ℕ → List (List (List ℕ))
own_lists lists vc = take 64 (drop (64 * vc) lists)

-- the list of a MAP
pub list_on : (lists : List (List (List ℕ))) (vc map_id : ℕ) → map_id < 64 → slice_index_or (own_lists lists vc) map_id [] ≡ slice_index_or lists (64 * vc + map_id) []
list_on lists vc map_id fits = get_or-take 64 (drop (64 * vc) lists) map_id [] fits ∙ get_or-drop (64 * vc) lists map_id []

pub first_on : (lists : List (List (List ℕ))) (vc : ℕ) → slice_index_or (own_lists lists vc) 0 [] ≡ slice_index_or lists (64 * vc) []
first_on lists vc = let same : 64 * vc + 0 ≡ 64 * vc = omega arith in list_on lists vc 0 (omega arith) ∙ ap (λ n. slice_index_or lists n []) same

-- the lists of the other MAPs are empty where there are no segment headers
pub others_empty : (format : TcFormat) (lists : List (List (List ℕ))) (vc : ℕ) → FitsOn format lists vc
    → (map_id : ℕ) → 0 < map_id → slice_index_or (own_lists lists vc) map_id [] ≡ []
others_empty format lists vc fits map_id some =
    elim (leb_tells 64 map_id) [
      | inl (test, past) ↦ get_or_past (own_lists lists vc) map_id [] (omega (arith, past, length-take 64 (drop (64 * vc) lists)))
      | inr (test, inside) ↦ list_on lists vc map_id (omega (arith, inside)) ∙ fits.others map_id some (omega (arith, inside))
    ]

-- ---- whole segments

one_part : (packet : List ℕ) → IsPacket packet → segment_count longest_packet packet ≡ 1
one_part packet is = let size = packet_size packet is in omega (arith, size.0, size.1)

-- a packet that fits is one segment with no segmentation
whole_part : (packet : List ℕ) → IsPacket packet → segments_of_packet longest_packet 0 packet ≡ (record { flags = 3; map = 0 }, packet) ∷ []
whole_part packet is =
    let one = one_part packet is in
    ap (λ n. map (part_at longest_packet 0 packet) (range_with_len 0 n)) one
    ∙ ap (λ n. (let h : SegmentFields = record { flags = flags_at n 0; map = 0 } in h, octets_at longest_packet packet 0) ∷ []) one
    ∙ ap (λ (octets : List ℕ). (let h : SegmentFields = record { flags = 3; map = 0 } in h, octets) ∷ []) (take_all longest_packet packet (packet_size packet is).1)

whole_parts : (packets : List (List ℕ)) → AllByRecursion IsPacket packets
    → map whole_segment packets ≡ map unit_made (flat_map (segments_of_packet longest_packet 0) packets)
whole_parts [] each = refl
whole_parts (packet ∷ packets) each = grind (arith, whole_part, whole_parts packets each.1)

-- ---- the packets of a MAP come back

module _ (format : TcFormat) (lists : List (List (List ℕ))) (vc room : ℕ) (some : 0 < room) (all : 64 ≤ length (drop (64 * vc) lists)) where
  abbrev packets : ℕ → List (List ℕ)
  packets map_id = slice_index_or (own_lists lists vc) map_id []

  each_on : (map_id : ℕ) → AllByRecursion (AllByRecursion IsPacket) (own_lists lists vc) → AllByRecursion IsPacket (packets map_id)
  each_on map_id each = each-at (AllByRecursion IsPacket) (own_lists lists vc) map_id [] tt each

  whole_back : (map_id : ℕ) → map_id < 64 → FitsOn format lists vc → AllByRecursion (AllByRecursion IsPacket) (own_lists lists vc)
      → packets_of_segments (segments_on map_id (map whole_segment (packets 0))) ≡ packets map_id
  whole_back zero fits on each =
      ap (λ l. packets_of_segments (segments_on 0 l)) (whole_parts (packets 0) (each_on 0 each))
      ∙ ap packets_of_segments (on_all longest_packet 0 (flat_map (segments_of_packet longest_packet 0) (packets 0)) (packets_parts longest_packet 0 (omega arith) (packets 0)))
      ∙ packets_back longest_packet 0 0 (packets 0) (omega arith) (omega arith) (each_on 0 each)
  whole_back (suc map_id) fits on each =
      ap (λ l. packets_of_segments (segments_on (suc map_id) l)) (whole_parts (packets 0) (each_on 0 each))
      ∙ ap packets_of_segments (on_none longest_packet (suc map_id) (λ m. m ≡ 0) (λ m is e. absurd (omega (arith, is, e))) (flat_map (segments_of_packet longest_packet 0) (packets 0)) (packets_parts longest_packet 0 (omega arith) (packets 0)))
      ∙ sym (others_empty format lists vc on (suc map_id) (omega arith))

  pub back_on : (b : Bool) (map_id : ℕ) → map_id < 64 → (b ≡ true → FitsOn format lists vc) → AllByRecursion (AllByRecursion IsPacket) (own_lists lists vc)
      → packets_of_segments (segments_on map_id (map (segment_in b) (units_of_maps b room 0 (own_lists lists vc)))) ≡ packets map_id
  back_on false map_id fits on each =
      let size : length (own_lists lists vc) ≡ 64 = length-take-le 64 (drop (64 * vc) lists) all in
      ap (λ l. packets_of_segments (segments_on map_id l)) (map-id (units_of_maps false room 0 (own_lists lists vc)) ∙ units_are_segments room 0 (own_lists lists vc))
      ∙ ap packets_of_segments (parts_of_map room 0 map_id map_id (own_lists lists vc) (omega arith) (omega (arith, size)) (omega (arith, size)))
      ∙ packets_back room map_id 0 (packets map_id) some fits (each_on map_id each)
  back_on true map_id fits on each =
      ap (λ l. packets_of_segments (segments_on map_id (map whole_segment l))) (units_are_packets room 0 (own_lists lists vc) (others_empty format lists vc (on refl)))
      ∙ whole_back map_id fits (on refl) each

-- ---- whether lists of packets fit

module _ (format : TcFormat) (lists : List (List (List ℕ))) (vc channel : ℕ) (here : channel ≡ 64 * vc) where
  pub fits_by : AllByRecursion (λ packet. length packet ≤ plain_room_of format) (slice_index_or lists channel [])
      → ((other : ℕ) → channel + 1 ≤ other → other < channel + 64 → slice_index_or lists other [] ≡ []) → FitsOn format lists vc
  fits_by short none = grind arith

  pub short_by : FitsOn format lists vc → AllByRecursion (λ packet. length packet ≤ plain_room_of format) (slice_index_or lists channel [])
  short_by fits = subst (λ n. AllByRecursion (λ packet. length packet ≤ plain_room_of format) (slice_index_or lists n [])) (sym here) fits.short

  pub none_by : (next : ℕ) → channel + 1 ≤ next → next < channel + 64 → FitsOn format lists vc → slice_index_or lists next [] ≡ []
  none_by next low high fits =
      let is : next ≡ 64 * vc + (next - 64 * vc) = omega (arith, here, low) in
      ap (λ n. slice_index_or lists n []) is ∙ fits.others (next - 64 * vc) (omega (arith, here, low)) (omega (arith, here, high))
