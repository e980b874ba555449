-- The code blocks of a communications link transmission unit, CCSDS 231.0-B: seven octets of data, and one with seven
-- bits of parity and a filler bit.
use Rattle.std.specs.Prelude.{ℕ, zero, suc, ◌+◌, ◌*◌, ◌/◌, ◌%◌, ◌^◌, Bool, true, false, ◌&&◌, ◌==◌}
use Rattle.std.specs.Prelude.{List, [], ◌∷◌, ◌++◌, length, take, drop, slice_index, bit_xor, nat_le}

-- the register of the parity after a bit: g(x) = x^7 + x^6 + x^2 + 1
abbrev pub with_bit : ℕ → ℕ → ℕ
with_bit register bit = bit_xor (register * 2 % 128) ((register / 64 + bit) % 2 * 0x45)

-- the register after this number of the last bits of an octet
abbrev pub with_bits : ℕ → ℕ → ℕ → ℕ
with_bits zero register octet = register
with_bits (suc k) register octet = with_bits k (with_bit register (octet / 2 ^ k % 2)) octet

-- the register after octets
abbrev pub register_after : ℕ → List ℕ → ℕ
register_after register [] = register
register_after register (o ∷ octets) = register_after (with_bits 8 register o) octets

-- the parity of seven octets: the register after them, inverted
abbrev pub parity : List ℕ → ℕ
parity octets = bit_xor (register_after 0 octets) 127

-- a code block is at the front whose parity is right; the filler bit behind it may be either
abbrev pub is_block : List ℕ → Bool
is_block octets = nat_le 8 (length octets) && (slice_index octets 7 / 2 == parity (take 7 octets))

-- how many right code blocks are at the front, no more than `most`
unfoldable pub blocks : ℕ → List ℕ → ℕ
blocks zero octets = 0
blocks (suc most) octets = elim (is_block octets) [ true ↦ blocks most (drop 8 octets) + 1 | false ↦ 0 ]

-- the data of this number of code blocks
abbrev pub data_of : ℕ → List ℕ → List ℕ
data_of zero octets = []
data_of (suc count) octets = take 7 octets ++ data_of count (drop 8 octets)

-- octets as this number of code blocks, each with its parity and a filler bit of 0
abbrev pub coded : ℕ → List ℕ → List ℕ
coded zero octets = []
coded (suc count) octets = (take 7 octets ++ 2 * parity (take 7 octets) ∷ []) ++ coded count (drop 7 octets)
