-- The register in which the frame error control field is computed. Only contracts of private
-- functions cite this file.
use Rattle.std.specs.Prelude.{◌≡◌, ℕ, ◌+◌, ◌*◌, List, ◌++◌}
use Rattle.sl_fields.specs.Fecf.{fecf_of}
use Rattle.sl_fields.specs.declared.error_control.Register.{Register}

-- the register's two octets as a number, the most significant first
abbrev pub register_number : Register → ℕ
register_number r = r.high * 256 + r.low

-- The register `old` becomes `new` by taking in these octets. For each message: where `old` holds
-- the field of the message, `new` holds the field of the message with these octets after it. A
-- register of zeros holds the field of the message FF FF.
abbrev pub TakesIn : Register → List ℕ → Register → Type 0
TakesIn old octets new =
    (before : List ℕ)
    → register_number old ≡ fecf_of before
    → register_number new ≡ fecf_of (before ++ octets)
