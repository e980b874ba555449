-- Segments of packets as units in frames, and these units on their MAPs.
use Rattle.std.proofs.Common.{◌≡◌, ◌≢◌, ℕ, zero, suc, ◌+◌, ◌<◌, ◌≤◌, ◌==◌, true, false, List, [], ◌∷◌, ◌++◌, length, map, flat_map, refl, sym, ◌∙◌, ap, ap₂, arith, append-nil, eq-eqb, ne_eqb}
use Rattle.std.proofs.lemmas.Grind.{common_steps}
use Rattle.std.specs.List.{AllByRecursion, range_with_len, slice_index_or}
use Rattle.std.proofs.lemmas.Bool.Decides.{nat_tests}
use Rattle.std.proofs.lemmas.List.{drop_at, take_at, map-append, length-take}
use Rattle.std.proofs.lemmas.List.Elements.{filter-append}
use Rattle.sl_fields.specs.SegmentHeader.{SegmentFields, FitsSegmentHeader, segment_fields, segment_octets}
use Rattle.sl_fields.proofs.HeaderLayout.{reads_back}
use Rattle.sl_fields.proofs.Octets.{length-octets_of}
use Rattle.sl_fields.proofs.Packing.{packed_lt}
use Rattle.sl_fields.proofs.SegmentHeaderLemmas.{segment_layout}
use Rattle.sl_tcflow.specs.Series.{header_at, segment_data, segments_on}
use Rattle.sl_tcflow.specs.TcNormalForm.{segment_count, octets_at, flags_at, segment_at, units_of_packet, units_of_maps}
use Rattle.sl_fields.proofs.ListLemmas.{each-append, each-every, each-flat_map, each-map, each-weaker, filter_all, filter_none}

-- ---- a segment

-- the unit with this header and these octets
abbrev pub unit_made : SegmentFields × List ℕ → List ℕ
unit_made segment = segment_octets segment.0 ++ segment.1

-- a segment that a frame can have: `room` octets at most, and a MAP with the property `On`
pub record CanBeFramed (room : ℕ) (On : ℕ → Type 0) (segment : SegmentFields × List ℕ) : Type 0 where
  pub header : FitsSegmentHeader segment.0
  pub inside : length segment.1 ≤ room
  pub on : On segment.0.map

-- the header and the octets of a segment are read back
pub header_of_unit : (segment : SegmentFields × List ℕ) → FitsSegmentHeader segment.0 → header_at (unit_made segment) ≡ segment.0
header_of_unit segment fit = grind (arith, take_at, length-octets_of, reads_back, segment_layout, packed_lt)

pub octets_of_unit : (segment : SegmentFields × List ℕ) → segment_data (unit_made segment) ≡ segment.1
octets_of_unit segment = drop_at (segment_octets segment.0) segment.1 1 (length-octets_of 1 (segment_fields segment.0))

pub map_of_unit : (room : ℕ) (On : ℕ → Type 0) (segment : SegmentFields × List ℕ) → CanBeFramed room On segment → (header_at (unit_made segment)).map ≡ segment.0.map
map_of_unit room On segment is = ap (λ (h : SegmentFields). h.map) (header_of_unit segment is.header)

-- ---- segments on their MAPs

module _ (room map_id : ℕ) where
  -- the segments of a MAP stay when the MAP is selected
  pub on_all : (segments : List (SegmentFields × List ℕ)) → AllByRecursion (CanBeFramed room (λ m. m ≡ map_id)) segments
      → segments_on map_id (map unit_made segments) ≡ map unit_made segments
  on_all segments each =
      filter_all (λ unit. (header_at unit).map == map_id) (map unit_made segments)
      (each-map (λ unit. ((header_at unit).map == map_id) ≡ true) unit_made segments
      (each-weaker (CanBeFramed room (λ m. m ≡ map_id)) (λ segment. ((header_at (unit_made segment)).map == map_id) ≡ true)
      (λ segment is. eq-eqb (header_at (unit_made segment)).map map_id (map_of_unit room (λ m. m ≡ map_id) segment is ∙ is.on)) segments each))

  -- the segments of other MAPs go when the MAP is selected
  pub on_none : (On : ℕ → Type 0) → ((m : ℕ) → On m → m ≢ map_id) → (segments : List (SegmentFields × List ℕ)) → AllByRecursion (CanBeFramed room On) segments
      → segments_on map_id (map unit_made segments) ≡ []
  on_none On apart segments each =
      filter_none (λ unit. (header_at unit).map == map_id) (map unit_made segments)
      (each-map (λ unit. ((header_at unit).map == map_id) ≡ false) unit_made segments
      (each-weaker (CanBeFramed room On) (λ segment. ((header_at (unit_made segment)).map == map_id) ≡ false)
      (λ segment is. ne_eqb (header_at (unit_made segment)).map map_id (λ e. apart segment.0.map is.on (sym (map_of_unit room On segment is) ∙ e))) segments each))

-- ---- the segments of packets

flags_fit : (count number : ℕ) → flags_at count number < 4
flags_fit count number = grind (arith, nat_tests)

module _ (room map_id : ℕ) where
  abbrev pub part_at : List ℕ → ℕ → SegmentFields × List ℕ
  part_at packet number = (record { flags = flags_at (segment_count room packet) number; map = map_id }, octets_at room packet number)

  -- the segments of a packet, as headers and octets
  abbrev pub segments_of_packet : List ℕ → List (SegmentFields × List ℕ)
  segments_of_packet packet = map (part_at packet) (range_with_len 0 (segment_count room packet))

  pub part_is : map_id < 64 → (packet : List ℕ) (number : ℕ) → CanBeFramed room (λ m. m ≡ map_id) (part_at packet number)
  part_is small packet number = grind (arith, flags_fit, length-take)

  pub packet_parts : map_id < 64 → (packet : List ℕ) → AllByRecursion (CanBeFramed room (λ m. m ≡ map_id)) (segments_of_packet packet)
  packet_parts small packet = grind (arith, common_steps, each-map, each-every, part_is)

  pub packets_parts : map_id < 64 → (packets : List (List ℕ)) → AllByRecursion (CanBeFramed room (λ m. m ≡ map_id)) (flat_map segments_of_packet packets)
  packets_parts small packets = grind (arith, each-flat_map, each-every, packet_parts)

  -- the segments of a packet are its units
  pub units_of_parts : (packet : List ℕ) (numbers : List ℕ) → map unit_made (map (part_at packet) numbers) ≡ map (segment_at room map_id packet) numbers
  units_of_parts packet [] = refl
  units_of_parts packet (number ∷ numbers) = ap (λ l. segment_at room map_id packet number ∷ l) (units_of_parts packet numbers)

-- ---- the segments of a virtual channel's MAPs

abbrev pub segments_of_maps : ℕ → ℕ → List (List (List ℕ)) → List (SegmentFields × List ℕ)
segments_of_maps room map_id [] = []
segments_of_maps room map_id (packets ∷ lists) = flat_map (segments_of_packet room map_id) packets ++ segments_of_maps room (map_id + 1) lists

-- the units of packets are their segments
pub flat_units : (room map_id : ℕ) (packets : List (List ℕ)) → flat_map (units_of_packet false room map_id) packets ≡ map unit_made (flat_map (segments_of_packet room map_id) packets)
flat_units room map_id [] = refl
flat_units room map_id (packet ∷ packets) = grind (arith, units_of_parts, map-append, flat_units room map_id packets)

pub units_are_segments : (room from : ℕ) (lists : List (List (List ℕ))) → units_of_maps false room from lists ≡ map unit_made (segments_of_maps room from lists)
units_are_segments room from [] = refl
units_are_segments room from (packets ∷ lists) = grind (arith, flat_units, map-append, units_are_segments room (from + 1) lists)

-- where there are no segment headers, the units of packets are the packets themselves
flat_packets : (room map_id : ℕ) (packets : List (List ℕ)) → flat_map (units_of_packet true room map_id) packets ≡ packets
flat_packets room map_id [] = refl
flat_packets room map_id (packet ∷ packets) = ap (λ l. packet ∷ l) (flat_packets room map_id packets)

no_units : (room from : ℕ) (lists : List (List (List ℕ))) → ((map_id : ℕ) → slice_index_or lists map_id [] ≡ []) → units_of_maps true room from lists ≡ []
no_units room from [] none = refl
no_units room from (packets ∷ lists) none =
    ap (λ ps. flat_map (units_of_packet true room from) ps ++ units_of_maps true room (from + 1) lists) (none 0)
    ∙ no_units room (from + 1) lists (λ map_id. none (suc map_id))

pub units_are_packets : (room from : ℕ) (lists : List (List (List ℕ))) → ((map_id : ℕ) → 0 < map_id → slice_index_or lists map_id [] ≡ [])
    → units_of_maps true room from lists ≡ slice_index_or lists 0 []
units_are_packets room from [] none = refl
units_are_packets room from (packets ∷ lists) none =
    ap₂ (λ a b. a ++ b) (flat_packets room from packets) (no_units room (from + 1) lists (λ map_id. none (suc map_id) (omega arith)))
    ∙ append-nil packets

weaker_on : (room : ℕ) (On On' : ℕ → Type 0) → ((m : ℕ) → On m → On' m) → (segments : List (SegmentFields × List ℕ)) → AllByRecursion (CanBeFramed room On) segments
    → AllByRecursion (CanBeFramed room On') segments
weaker_on room On On' weaker segments each = grind (arith, each-weaker)

pub maps_parts : (room from : ℕ) (lists : List (List (List ℕ))) → from + length lists ≤ 64 → AllByRecursion (CanBeFramed room (λ m. from ≤ m)) (segments_of_maps room from lists)
maps_parts room from [] few = tt
maps_parts room from (packets ∷ lists) few = grind (arith, each-append, weaker_on, packets_parts, maps_parts room (from + 1) lists (omega arith))

-- the segments of a MAP are those of its packets
pub parts_of_map : (room from map_id index : ℕ) (lists : List (List (List ℕ))) → map_id ≡ from + index → index < length lists → from + length lists ≤ 64
    → segments_on map_id (map unit_made (segments_of_maps room from lists)) ≡ map unit_made (flat_map (segments_of_packet room map_id) (slice_index_or lists index []))
parts_of_map room from map_id index [] here inside few = absurd (omega arith)
parts_of_map room from map_id zero (packets ∷ lists) here inside few =
    let segments = flat_map (segments_of_packet room from) packets in
    let later = segments_of_maps room (from + 1) lists in
    let same : from ≡ map_id = omega (arith, here) in
    ap (segments_on map_id) (map-append unit_made segments later)
    ∙ filter-append (λ unit. (header_at unit).map == map_id) (map unit_made segments) (map unit_made later)
    ∙ ap (λ l. segments_on map_id (map unit_made segments) ++ l)
    (on_none room map_id (λ m. from + 1 ≤ m) (λ m above e. omega (arith, above, e, same)) later (maps_parts room (from + 1) lists (omega arith)))
    ∙ append-nil (segments_on map_id (map unit_made segments))
    ∙ ap (λ m. segments_on map_id (map unit_made (flat_map (segments_of_packet room m) packets))) same
    ∙ on_all room map_id (flat_map (segments_of_packet room map_id) packets) (packets_parts room map_id (omega (arith, same)) packets)
parts_of_map room from map_id (suc index) (packets ∷ lists) here inside few =
    let segments = flat_map (segments_of_packet room from) packets in
    let later = segments_of_maps room (from + 1) lists in
    ap (segments_on map_id) (map-append unit_made segments later)
    ∙ filter-append (λ unit. (header_at unit).map == map_id) (map unit_made segments) (map unit_made later)
    ∙ ap (λ l. l ++ segments_on map_id (map unit_made later))
    (on_none room map_id (λ m. m ≡ from) (λ m is e. omega (arith, is, e, here)) segments (packets_parts room from (omega arith) packets))
    ∙ parts_of_map room (from + 1) map_id index lists (omega (arith, here)) (omega arith) (omega arith)
