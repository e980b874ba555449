-- A packet divided into segments: the segments are full except the last one, and make up the packet.
use Rattle.std.proofs.Common.{◌≡◌, ℕ, zero, suc, ◌+◌, ◌*◌, ◌<◌, List, [], ◌∷◌, length, drop, map, refl, ap₂, arith, length-take-le}
use Rattle.std.specs.List.{range_with_len}
use Rattle.std.proofs.lemmas.List.{length-drop, length-take, take_all}
use Rattle.std.proofs.Math.Nat.{suc-mul, le-div_iff_mul-le}
use Rattle.sl_tcflow.specs.TcNormalForm.{segment_count, octets_at, segment_at, AreSegments, last, full, EachIsDivided}
use Rattle.sl_tcflow.specs.Series.{segment_data}
use Rattle.sl_fields.proofs.ListLemmas.{each-every, each-map}
use Rattle.sl_tcflow.proofs.lemmas.Series.Part.{parts_joined, covers, some_parts, units_are_series}
use Rattle.sl_tcflow.proofs.lemmas.Series.Segment.{part_at, part_is, header_of_unit, octets_of_unit}

only_octets : (room map_id : ℕ) (packet : List ℕ) (numbers : List ℕ) → map segment_data (map (segment_at room map_id packet) numbers) ≡ map (octets_at room packet) numbers
only_octets room map_id packet [] = refl
only_octets room map_id packet (number ∷ numbers) = ap₂ (λ a b. a ∷ b) (octets_of_unit (part_at room map_id packet number)) (only_octets room map_id packet numbers)

-- each segment begins within the packet
begins_within : (room : ℕ) (packet : List ℕ) (number : ℕ) → 0 < room → 0 < length packet → number < segment_count room packet → number * room < length packet
begins_within room packet number some long inside = grind (arith, suc-mul, le-div_iff_mul-le)

-- the segments from a number on
filled_from : (room : ℕ) (packet : List ℕ) (from n : ℕ) → 0 < room → 0 < length packet → 0 < n → from + n ≡ segment_count room packet
    → AreSegments room (map (octets_at room packet) (range_with_len from n))
filled_from room packet from zero some long more is = absurd (omega arith)
filled_from room packet from (suc zero) some long more is =
    let inside : from * room < length packet = begins_within room packet from some long (omega (arith, is)) in
    let left = length-drop (from * room) packet in
    let size = length-take room (drop (from * room) packet) in
    last (octets_at room packet from) (omega (arith, inside, left, size, some)) (omega (arith, size))
filled_from room packet from (suc (suc n)) some long more is =
    let one = suc-mul from room in
    let inside : suc from * room < length packet = begins_within room packet (suc from) some long (omega (arith, is)) in
    let left = length-drop (from * room) packet in
    full (octets_at room packet from) (map (octets_at room packet) (range_with_len (from + 1) (suc n)))
    (length-take-le room (drop (from * room) packet) (omega (arith, one, inside, left)))
    (filled_from room packet (from + 1) (suc n) some long (omega arith) (omega (arith, is)))

pub each_is_divided : EachIsDivided
each_is_divided room map_id packet some small long = grind (arith, only_octets, filled_from, some_parts, parts_joined, take_all, covers, units_are_series, each-map, each-every, header_of_unit, part_is)
