-- What a remainder by the generator x^16 + x^12 + x^5 + 1 is, apart from any way to find it.
use Rattle.std.specs.Prelude.{◌≡◌, ℕ, ◌+◌, ◌*◌, ◌≤◌, Bool, true, false, List, [], ◌∷◌, ◌++◌, length}
use Rattle.std.specs.Prelude.{replicate}
use Rattle.sl_fields.specs.Fecf.{generator, plus_bits, remainder, preset, octet_bits, bits_of}
use Rattle.sl_fields.specs.Fecf.{bits_number, fecf_of}
use Rattle.sl_fields.specs.FecfWords.{word_of}

-- The multiple of the generator by a quotient, which is given as its bits. For each bit of the
-- quotient that is 1, a copy of the generator is added, without carries. The first bit of the copy
-- stands at this bit. The multiple has sixteen bits more than the quotient.
abbrev pub multiple : List Bool → List Bool
multiple [] = replicate 16 false
multiple (false ∷ quotient) = false ∷ multiple quotient
multiple (true ∷ quotient) = plus_bits generator (false ∷ multiple quotient)

-- `rest` is a remainder of `bits`: `rest` has sixteen bits, one fewer than the generator, and
-- `bits` are the sum, without carries, of a multiple of the generator and `rest`.
pub record IsRemainder (bits rest : List Bool) : Type 0 where
  pub short : length rest ≡ 16
  pub multiple_added :
      (quotient : List Bool)
      × (bits ≡ plus_bits (multiple quotient) (replicate (length quotient) false ++ rest))

-- The long division finds a remainder.
abbrev pub DivisionFindsRemainder : Type 0
DivisionFindsRemainder = (bits : List Bool) → 16 ≤ length bits → IsRemainder bits (remainder bits)

-- There is no other remainder.
abbrev pub RemainderIsOnlyOne : Type 0
RemainderIsOnlyOne = (bits rest : List Bool) → IsRemainder bits rest → rest ≡ remainder bits

-- The bits have a remainder that is this number in base 2, and none that is another number.
pub record IsRemaindersNumber (bits : List Bool) (number : ℕ) : Type 0 where
  pub is : (rest : List Bool) × IsRemainder bits rest × (number ≡ bits_number rest)
  pub only : (rest : List Bool) → IsRemainder bits rest → number ≡ bits_number rest

-- The frame error control field is the remainder of the message's bits and sixteen zeros after
-- them, with the first sixteen bits of this list inverted.
abbrev pub FieldIsRemainder : Type 0
FieldIsRemainder =
    (octets : List ℕ)
    → IsRemaindersNumber (preset (bits_of octets ++ replicate 16 false)) (fecf_of octets)

-- The word of the octet `n` is the remainder, without preset, of the octet's eight bits, eight
-- zeros for each later octet, and sixteen zeros.
abbrev pub WordIsRemainder : Type 0
WordIsRemainder =
    (later n : ℕ)
    → IsRemaindersNumber (octet_bits n ++ replicate (8 * later + 16) false) (word_of later n)
