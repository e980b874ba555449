-- The frame error control field, CCSDS 132.0-B and 232.0-B: the remainder of a division of lists of
-- bits.
use Rattle.std.specs.Prelude.{ℕ, zero, suc, ◌+◌, ◌-◌, ◌*◌, ◌/◌, ◌%◌, ◌^◌, ◌==◌, nat_lt, ◌&&◌, Bool}
use Rattle.std.specs.Prelude.{true, false, not, cond, List, [], ◌∷◌, ◌++◌, length, take, drop, map}
use Rattle.std.specs.Prelude.{flat_map, replicate}
use Rattle.sl_fields.specs.Field.{bit_of, number_of}

-- the bits of an octet, the most significant first
abbrev pub octet_bits : ℕ → List Bool
octet_bits octet =
    (octet / 128 % 2 == 1) ∷ (octet / 64 % 2 == 1) ∷ (octet / 32 % 2 == 1) ∷ (octet / 16 % 2 == 1)
    ∷ (octet / 8 % 2 == 1) ∷ (octet / 4 % 2 == 1) ∷ (octet / 2 % 2 == 1) ∷ (octet % 2 == 1) ∷ []

-- the bits of octets, one octet after another
abbrev pub bits_of : List ℕ → List Bool
bits_of octets = flat_map octet_bits octets

-- the bits read as one number in base 2, the first bit the most significant
abbrev pub bits_number : List Bool → ℕ
bits_number [] = 0
bits_number (b ∷ bits) = bit_of b * 2 ^ length bits + bits_number bits

-- the sum of two bits without carry
abbrev pub plus_bit : Bool → Bool → Bool
plus_bit false b = b
plus_bit true b = not b

-- The sum without carries of two lists of bits, from the front on: the bits of the first list are
-- added to the first bits of the second. The sum is as long as the second list.
abbrev pub plus_bits : List Bool → List Bool → List Bool
plus_bits [] bits = bits
plus_bits (a ∷ added) [] = []
plus_bits (a ∷ added) (b ∷ bits) = plus_bit a b ∷ plus_bits added bits

-- the seventeen bits of the generator x^16 + x^12 + x^5 + 1: 1 0001 0000 0010 0001
abbrev pub generator : List Bool
generator =
    true ∷ false ∷ false ∷ false ∷ true ∷ false ∷ false ∷ false ∷ false ∷ false ∷ false ∷ true
    ∷ false ∷ false ∷ false ∷ false ∷ true ∷ []

-- Long division without carries: what is left after this number of steps, one for each bit of the
-- quotient. Where the first bit is 1, a step adds the generator from the front on, and the first
-- bit becomes 0. Then the step drops the first bit. (Without carries, a sum is also the
-- difference.)
abbrev pub divided : ℕ → List Bool → List Bool
divided zero bits = bits
divided (suc steps) [] = []
divided (suc steps) (b ∷ bits) = divided steps (drop 1 (cond b (plus_bits generator (b ∷ bits)) (b ∷ bits)))

-- The remainder by the generator: sixteen bits, or the bits themselves where there are fewer.
abbrev pub remainder : List Bool → List Bool
remainder bits = divided (length bits - 16) bits

-- The bits with the first sixteen inverted. A register that is preset to all ones has this effect.
abbrev pub preset : List Bool → List Bool
preset bits = map not (take 16 bits) ++ drop 16 bits

-- The remainder, as a number, of a message that is given as its bits. Sixteen zeros are put after
-- the bits, the first sixteen bits of this list are inverted, and the list is divided. A register
-- that is preset to all ones and divides bit by bit holds this number after the message.
unfoldable pub register_of : List Bool → ℕ
register_of bits = bits_number (remainder (preset (bits ++ replicate 16 false)))

-- The frame error control field that follows these octets in a frame. An empty list has one too.
unfoldable pub fecf_of : List ℕ → ℕ
fecf_of octets = register_of (bits_of octets)

-- Whether octets end with their frame error control field: there are three octets or more, and the
-- last two, as one number, are the field of the octets before them.
abbrev pub fecf_is_good : List ℕ → Bool
fecf_is_good octets =
    nat_lt 2 (length octets)
    && number_of (drop (length octets - 2) octets) == fecf_of (take (length octets - 2) octets)
