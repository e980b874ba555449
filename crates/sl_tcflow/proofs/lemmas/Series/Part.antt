-- The segments of packets, put together again.
use Rattle.std.proofs.Common.{◌≡◌, ℕ, zero, suc, ◌+◌, ◌*◌, ◌<◌, ◌≤◌, nat_le, if◌then◌else◌, List, [], ◌∷◌, ◌++◌, length, take, map, flat_map, refl, sym, ◌∙◌, ap, ap₂, subst, arith, append-nil, add-one, le-leb, take-add}
use Rattle.std.proofs.lemmas.Grind.{common_steps}
use Rattle.std.specs.List.{AllByRecursion, concat, range_with_len}
use Rattle.std.proofs.lemmas.Bool.Decides.{leb_tells, nat_tests}
use Rattle.std.proofs.lemmas.List.{map-append, take_all}
use Rattle.std.proofs.lemmas.List.Folds.{concat-append}
use Rattle.std.proofs.lemmas.List.FromFn.{map-range_with_len_more}
use Rattle.std.proofs.Math.Nat.{suc-mul, zero-mul}
use Rattle.sl_packet.specs.Packet.{IsPacket}
use Rattle.sl_packet.specs.Packets.{packets_of}
use Rattle.sl_packet.proofs.PacketsLemmas.{packets_of-packet}
use Rattle.sl_tcflow.specs.Reception.{packets_of_series}
use Rattle.sl_tcflow.specs.Series.{flags_of, IsSeries, whole, segmented, SeriesAt, series_from, reassembled}
use Rattle.sl_tcflow.specs.TcNormalForm.{segment_count, octets_at, flags_at, segment_at}
use Rattle.sl_fields.proofs.ListLemmas.{each-append, each-weaker}
use Rattle.sl_tcflow.proofs.lemmas.Form.Pushed.{another_begins}
use Rattle.sl_tcflow.proofs.lemmas.Series.Segment.{unit_made, part_at, part_is, segments_of_packet, units_of_parts, header_of_unit, octets_of_unit}
use Rattle.sl_tcflow.proofs.lemmas.Series.Listed.{IsContinuing, series_at, begins_whole, begins_divided, completed_all, none_begin, continuing_begins_none, last_begins_none}

-- ---- the octets of the segments

module _ (room : ℕ) (packet : List ℕ) where
  abbrev part : ℕ → List ℕ
  part = octets_at room packet

  pub parts_joined : (n : ℕ) → concat (map part (range_with_len 0 n)) ≡ take (n * room) packet
  parts_joined zero = let none = zero-mul room in ap (λ k. take k packet) (sym none)
  parts_joined (suc n) =
      let parts = map part (range_with_len 0 n) in
      let next : n * room + room ≡ suc n * room = let one = suc-mul n room in omega (arith, one) in
      ap (λ k. concat (map part (range_with_len 0 k))) (sym (add-one n))
      ∙ ap concat (map-range_with_len_more part 0 n n (omega arith)) ∙ concat-append parts (part n ∷ [])
      ∙ ap₂ (λ a b. a ++ b) (parts_joined n) (append-nil (part n))
      ∙ sym (take-add (n * room) room packet) ∙ ap (λ k. take k packet) next

  pub covers : 0 < room → length packet ≤ segment_count room packet * room
  covers some = grind (arith, leb_tells, another_begins)

  pub some_parts : 0 < room → 0 < length packet → 0 < segment_count room packet
  some_parts some long = let none = zero-mul room in another_begins room packet 0 some (omega (arith, none, long))

octets_of_parts : (room map_id : ℕ) (packet : List ℕ) (numbers : List ℕ)
    → reassembled (map unit_made (map (part_at room map_id packet) numbers)) ≡ concat (map (octets_at room packet) numbers)
octets_of_parts room map_id packet [] = refl
octets_of_parts room map_id packet (number ∷ numbers) = grind (arith, octets_of_unit, octets_of_parts room map_id packet numbers)

pub reassembled_parts : (room map_id : ℕ) (packet : List ℕ) → 0 < room → reassembled (map unit_made (segments_of_packet room map_id packet)) ≡ packet
reassembled_parts room map_id packet some = grind (arith, octets_of_parts, parts_joined, take_all, covers)

-- ---- the sequence flags of the segments

first_of_many : (count : ℕ) → 1 < count → flags_at count 0 ≡ 1
first_of_many count many = grind (arith, nat_tests)

between : (count number : ℕ) → 1 ≤ number → number + 1 < count → flags_at count number ≡ 0
between count number after before = grind (arith, nat_tests)

last_of_many : (count number : ℕ) → 1 ≤ number → number + 1 ≡ count → flags_at count number ≡ 2
last_of_many count number after is = grind (arith, nat_tests)

continuing : (count : ℕ) (unit : ℕ → List ℕ) → ((number : ℕ) → flags_of (unit number) ≡ flags_at count number)
    → (from n : ℕ) → 1 ≤ from → from + n < count → AllByRecursion IsContinuing (map unit (range_with_len from n))
continuing count unit flags from zero after before = tt
continuing count unit flags from (suc n) after before = grind (arith, continuing count unit flags (from + 1) n (omega arith) (omega arith))

series_of_parts : (count : ℕ) (unit : ℕ → List ℕ) → ((number : ℕ) → flags_of (unit number) ≡ flags_at count number) → 0 < count
    → IsSeries (map unit (range_with_len 0 count))
series_of_parts zero unit flags some = absurd (omega arith)
series_of_parts (suc zero) unit flags some = whole (unit 0) (flags 0)
series_of_parts (suc (suc n)) unit flags some =
    let middle = map unit (range_with_len 1 n) in
    let all : map unit (range_with_len 1 (suc n)) ≡ middle ++ unit (suc n) ∷ [] =
    ap (λ k. map unit (range_with_len 1 k)) (sym (add-one n)) ∙ map-range_with_len_more unit 1 n (suc n) (omega arith) in
    subst (λ l. IsSeries (unit 0 ∷ l)) (sym all)
    (segmented (unit 0) (unit (suc n)) middle (flags 0 ∙ first_of_many (suc (suc n)) (omega arith))
    (continuing (suc (suc n)) unit flags 1 n (omega arith) (omega arith)) (flags (suc n) ∙ last_of_many (suc (suc n)) (suc n) (omega arith) (omega arith)))

pub units_are_series : (room map_id : ℕ) (packet : List ℕ) → 0 < room → map_id < 64 → 0 < length packet
    → IsSeries (map (segment_at room map_id packet) (range_with_len 0 (segment_count room packet)))
units_are_series room map_id packet some small long = grind (arith, series_of_parts, header_of_unit, part_is, some_parts)

pub parts_are_series : (room map_id : ℕ) (packet : List ℕ) → 0 < room → map_id < 64 → 0 < length packet → IsSeries (map unit_made (segments_of_packet room map_id packet))
parts_are_series room map_id packet some small long = grind (arith, units_of_parts, units_are_series)

-- ---- a series at the front of a list

pub series_first : (n k : ℕ) (segments later : List (List ℕ)) → k ≡ n + length segments → IsSeries segments
    → series_from n (segments ++ later) ≡ series_at n segments ∷ series_from k later
series_first n k segments later here (whole segment is) = grind (arith, common_steps, begins_whole)
series_first n k segments later here (segmented first last middle begins goes_on ends) = grind (arith, common_steps, each-append, each-weaker, continuing_begins_none, last_begins_none, begins_divided, completed_all, none_begin)

-- ---- packets

-- a packet has 7 to 65,542 octets
pub packet_size : (packet : List ℕ) → IsPacket packet → (0 < length packet) × (length packet ≤ 65542)
packet_size packet is = let long = is.len in (omega (arith, long), omega (arith, long))

packet_carried : (room map_id : ℕ) (packet : List ℕ) → 0 < room → IsPacket packet → packets_of_series (map unit_made (segments_of_packet room map_id packet)) ≡ packet ∷ []
packet_carried room map_id packet some is =
    ap (λ octets. if nat_le (length octets) 65542 then packets_of octets else []) (reassembled_parts room map_id packet some)
    ∙ ap (λ b. if b then packets_of packet else []) (le-leb (length packet) 65542 (packet_size packet is).1)
    ∙ ap packets_of (sym (append-nil packet)) ∙ packets_of-packet packet [] is

-- the packets of the series of the packets' segments
pub packets_back : (room map_id n : ℕ) (packets : List (List ℕ)) → 0 < room → map_id < 64 → AllByRecursion IsPacket packets
    → flat_map (λ (s : SeriesAt). packets_of_series s.segments) (series_from n (map unit_made (flat_map (segments_of_packet room map_id) packets))) ≡ packets
packets_back room map_id n [] some small each = refl
packets_back room map_id n (packet ∷ packets) some small each =
    let carried : List SeriesAt → List (List ℕ) = flat_map (λ (s : SeriesAt). packets_of_series s.segments) in
    let segments = map unit_made (segments_of_packet room map_id packet) in
    let later = map unit_made (flat_map (segments_of_packet room map_id) packets) in
    let k = n + length segments in
    ap (λ l. carried (series_from n l)) (map-append unit_made (segments_of_packet room map_id packet) (flat_map (segments_of_packet room map_id) packets))
    ∙ ap carried (series_first n k segments later refl (parts_are_series room map_id packet some small (packet_size packet each.0).0))
    ∙ ap (λ l. l ++ carried (series_from k later)) (packet_carried room map_id packet some each.0)
    ∙ ap (λ l. packet ∷ l) (packets_back room map_id k packets some small each.1)
