-- Fields of a header. The bits of a header are numbered from 0, the most significant bit of its
-- first octet, and a field is an unsigned number with its most significant bit first (CCSDS
-- 133.0-B, 132.0-B and 232.0-B).
use Rattle.std.specs.Prelude.{ℕ, ◌+◌, ◌-◌, ◌*◌, ◌/◌, ◌%◌, ◌^◌, ◌<◌, ◌==◌, Bool, true, false, List}
use Rattle.std.specs.Prelude.{[], ◌∷◌, length, All}
use Rattle.std.specs.List.{AllByRecursion}
use Rattle.byteorder.specs.Endian.{big_bytes}

-- each number is an octet
abbrev pub IsOctets : List ℕ → Type 0
IsOctets octets = All (λ octet. octet < 256) octets

-- the octets read as one number in base 256, the first octet the most significant
abbrev pub number_of : List ℕ → ℕ
number_of [] = 0
number_of (octet ∷ octets) = octet * 256 ^ length octets + number_of octets

-- The value of the field of `width` bits that begins at the bit numbered `bit`. The header has
-- `size` octets.
abbrev pub field : ℕ → ℕ → ℕ → List ℕ → ℕ
field size bit width header = number_of header / 2 ^ (8 * size - bit - width) % 2 ^ width

-- the field of one bit as a flag: true where the bit is 1
abbrev pub flag : ℕ → ℕ → List ℕ → Bool
flag size bit header = field size bit 1 header == 1

-- the value, 0 or 1, of a field of one bit that holds this flag
abbrev pub bit_of : Bool → ℕ
bit_of false = 0
bit_of true = 1

-- how many bits the fields take together, each field given as its width and its value
abbrev pub width_of : List (ℕ × ℕ) → ℕ
width_of [] = 0
width_of (f ∷ fields) = f.0 + width_of fields

-- the number whose fields are these, one after another, the first field the most significant
abbrev pub packed : List (ℕ × ℕ) → ℕ
packed [] = 0
packed (f ∷ fields) = f.1 * 2 ^ width_of fields + packed fields

-- each value fits in the bits of its field
abbrev pub FitWidths : List (ℕ × ℕ) → Type 0
FitWidths = AllByRecursion (λ f. f.1 < 2 ^ f.0)

-- `count` octets, the most significant first, whose number has these fields
abbrev pub octets_of : ℕ → List (ℕ × ℕ) → List ℕ
octets_of count fields = big_bytes count (packed fields)
