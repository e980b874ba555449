-- Digits of numbers, for `src/io/digits.rt`, and of octets in hexadecimal, for `hexadecimal.rt` beside it. Contracts of
-- private functions alone cite these.
use Rattle.std.specs.Prelude.{◌≡◌, ◌≤◌, ℕ, ◌+◌, ◌*◌, ◌/◌, ◌%◌, List, [], ◌∷◌, ◌++◌, decimal, drop, length, slice_index, take}
use Rattle.hex.specs.Hex.{encode_lower}

-- the places begin with the digits of the number, and the last place says how many these are, three at most
pub record AreDigits (number : ℕ) (places : List ℕ) : Type 0 where
  pub digits : take (slice_index places 3) places ≡ decimal number
  pub few : slice_index places 3 ≤ 3

-- the places begin with the digits of the number, and this is how many digits it has
pub record AreLeading (number : ℕ) (places : List ℕ) (many : ℕ) : Type 0 where
  pub digits : take many places ≡ decimal number
  pub few : many ≤ 16

-- the number is that of a long number's leading digits, and this is the least such long number
pub record AreOfLong (number least : ℕ) : Type 0 where
  pub some : 1 ≤ number
  pub least_is : least ≡ number * 10000

-- two digits of a number below 100, and four of one below 10,000, with the zeros before them
abbrev pub two_digits : ℕ → List ℕ
two_digits n = (48 + n / 10) ∷ (48 + n % 10) ∷ []

abbrev pub four_digits : ℕ → List ℕ
four_digits n = two_digits (n / 100) ++ two_digits (n % 100)

-- n octets, from one of these on, were put into a buffer in hexadecimal. The first of all has the
-- place `at`.
pub record PutsBlock (octets : List ℕ) (from n at : ℕ) (before after : List ℕ) : Type 0 where
  pub text : take (at + 2 * (from + n)) after
      ≡ take (at + 2 * from) before ++ encode_lower (take n (drop from octets))
  pub long : length after ≡ length before
