-- The primary header of a TC transfer frame, CCSDS 232.0-B: five octets.
use Rattle.std.specs.Prelude.{ℕ, ◌^◌, ◌<◌, Bool, false, List, [], ◌∷◌}
use Rattle.sl_fields.specs.Field.{bit_of, field, flag, octets_of}

-- the fields of the header, in their order
pub record TcFields : Type 0 where
  pub version : ℕ
  pub bypass : Bool
  pub command : Bool
  pub spare : ℕ
  pub spacecraft : ℕ
  pub vc : ℕ
  pub length : ℕ
  pub ns : ℕ

-- each field is within the range of its bits
pub record FitsTcHeader (h : TcFields) : Type 0 where
  pub version : h.version < 2 ^ 2
  pub spare : h.spare < 2 ^ 2
  pub spacecraft : h.spacecraft < 2 ^ 10
  pub vc : h.vc < 2 ^ 6
  pub length : h.length < 2 ^ 10
  pub ns : h.ns < 2 ^ 8

-- the header of a frame of type AD: the version, the bypass flag, the control command flag and the
-- spare bits are 0
abbrev pub ad_header : ℕ → ℕ → ℕ → ℕ → TcFields
ad_header spacecraft vc length ns =
    record {
      version = 0;
      bypass = false;
      command = false;
      spare = 0;
      spacecraft = spacecraft;
      vc = vc;
      length = length;
      ns = ns;
    }

-- the header that is read from five octets
abbrev pub tc_header : List ℕ → TcFields
tc_header octets =
    record {
      version = field 5 0 2 octets;
      bypass = flag 5 2 octets;
      command = flag 5 3 octets;
      spare = field 5 4 2 octets;
      spacecraft = field 5 6 10 octets;
      vc = field 5 16 6 octets;
      length = field 5 22 10 octets;
      ns = field 5 32 8 octets;
    }

-- the fields in their order, each as its width and its value
abbrev pub tc_fields : TcFields → List (ℕ × ℕ)
tc_fields h =
    (2, h.version) ∷ (1, bit_of h.bypass) ∷ (1, bit_of h.command) ∷ (2, h.spare)
    ∷ (10, h.spacecraft) ∷ (6, h.vc) ∷ (10, h.length) ∷ (8, h.ns) ∷ []

-- the five octets of the header with these fields
abbrev pub tc_octets : TcFields → List ℕ
tc_octets h = octets_of 5 (tc_fields h)
