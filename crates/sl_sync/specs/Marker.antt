-- A sync marker, and where one stands: the attached sync marker of CCSDS 131.0-B, the start sequence and the tail
-- sequence of CCSDS 231.0-B.
use Rattle.std.specs.Prelude.{◌≡◌, ℕ, ◌+◌, ◌*◌, ◌≤◌, ◌<◌, Bool, true, false, List, [], ◌∷◌, length, drop}
use Rattle.std.specs.Prelude.{slice_index, bit_xor, count_ones, nat_le}

-- a marker's octets, and how many of its bits may be wrong
pub record Marker : Type 0 where
  pub octets : List ℕ
  pub errors : ℕ

-- sixteen octets at most, of whose bits a quarter may be wrong at most; where there are no octets, none
abbrev pub IsMarker : Marker → Type 0
IsMarker m = (length m.octets ≤ 16) × (m.errors ≤ 2 * length m.octets)

-- No octets, which stand anywhere.
abbrev pub no_marker : Marker
no_marker = record { octets = []; errors = 0 }

-- The wrong bits of a marker's octets at the front of these; where these end first, of as much of the marker as is there.
abbrev pub wrong_bits : List ℕ → List ℕ → ℕ
wrong_bits [] octets = 0
wrong_bits (m ∷ marker) [] = 0
wrong_bits (m ∷ marker) (o ∷ octets) = count_ones (bit_xor m o) + wrong_bits marker octets

-- the marker is at the front, with no more wrong bits than it may have
abbrev pub is_marked : Marker → List ℕ → Bool
is_marked m octets = nat_le (wrong_bits m.octets octets) m.errors

-- the first place from one on at which the marker is, or the end, where it is at none before that
pub record IsNextMarked (m : Marker) (octets : List ℕ) (from end place : ℕ) : Type 0 where
  pub after : from ≤ place
  pub inside : place ≤ end
  pub none : (j : ℕ) → from ≤ j → j < place → is_marked m (drop j octets) ≡ false
  pub here : place < end → is_marked m (drop place octets) ≡ true

-- the first four octets as one number, the first of them highest
unfoldable pub first_four : List ℕ → ℕ
first_four octets =
    (slice_index octets 0 * 256 + slice_index octets 1) * 65536 + (slice_index octets 2 * 256 + slice_index octets 3)
