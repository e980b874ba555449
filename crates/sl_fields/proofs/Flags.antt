-- Flags as fields of one bit, and the values of a list of fields.
use Rattle.std.proofs.Common.{◌≡◌, ℕ, ◌%◌, ◌^◌, ◌<◌, Bool, true, false, ◌==◌, List, refl, get_or, arith}
use Rattle.std.proofs.lemmas.Bool.Decides.{nat_tests}
use Rattle.sl_fields.specs.Field.{bit_of}

-- the value of one field: as a number, and as a flag
abbrev pub value_at : List (ℕ × ℕ) → ℕ → ℕ
value_at fs i = (get_or fs i (0, 0)).1

abbrev pub flag_at : List (ℕ × ℕ) → ℕ → Bool
flag_at fs i = value_at fs i == 1

pub flag_of-bit : (b : Bool) → (bit_of b == 1) ≡ b
flag_of-bit true = refl
flag_of-bit false = refl

pub bit_fits : (b : Bool) → bit_of b < 2 ^ 1
bit_fits true = omega arith
bit_fits false = omega arith

-- a flag that is read from a number of one bit, as a number again
pub bit_of-flag : (n : ℕ) → bit_of (n % 2 ^ 1 == 1) ≡ n % 2 ^ 1
bit_of-flag n = grind (arith, nat_tests)
