-- The primary header of a TM transfer frame, CCSDS 132.0-B: six octets.
use Rattle.std.specs.Prelude.{ℕ, ◌^◌, ◌<◌, Bool, false, List, [], ◌∷◌}
use Rattle.sl_fields.specs.Field.{bit_of, field, flag, octets_of}

-- the fields of the header, in their order
pub record TmFields : Type 0 where
  pub version : ℕ
  pub spacecraft : ℕ
  pub vc : ℕ
  pub control : Bool
  pub mc : ℕ
  pub vcc : ℕ
  pub secondary : Bool
  pub sync : Bool
  pub order : Bool
  pub segment : ℕ
  pub first : ℕ

-- each field is within the range of its bits
pub record FitsTmHeader (h : TmFields) : Type 0 where
  pub version : h.version < 2 ^ 2
  pub spacecraft : h.spacecraft < 2 ^ 10
  pub vc : h.vc < 2 ^ 3
  pub mc : h.mc < 2 ^ 8
  pub vcc : h.vcc < 2 ^ 8
  pub segment : h.segment < 2 ^ 2
  pub first : h.first < 2 ^ 11

-- The header of a frame of packets: version 0, no operational control field, no secondary header,
-- synchronisation flag 0, packet order flag 0 and segment length identifier 3.
abbrev pub packets_header : ℕ → ℕ → ℕ → ℕ → ℕ → TmFields
packets_header spacecraft vc mc vcc first =
    record {
      version = 0;
      spacecraft = spacecraft;
      vc = vc;
      control = false;
      mc = mc;
      vcc = vcc;
      secondary = false;
      sync = false;
      order = false;
      segment = 3;
      first = first;
    }

-- the header that is read from six octets
abbrev pub tm_header : List ℕ → TmFields
tm_header octets =
    record {
      version = field 6 0 2 octets;
      spacecraft = field 6 2 10 octets;
      vc = field 6 12 3 octets;
      control = flag 6 15 octets;
      mc = field 6 16 8 octets;
      vcc = field 6 24 8 octets;
      secondary = flag 6 32 octets;
      sync = flag 6 33 octets;
      order = flag 6 34 octets;
      segment = field 6 35 2 octets;
      first = field 6 37 11 octets;
    }

-- the fields in their order, each as its width and its value
abbrev pub tm_fields : TmFields → List (ℕ × ℕ)
tm_fields h =
    (2, h.version) ∷ (10, h.spacecraft) ∷ (3, h.vc) ∷ (1, bit_of h.control)
    ∷ (8, h.mc) ∷ (8, h.vcc)
    ∷ (1, bit_of h.secondary) ∷ (1, bit_of h.sync) ∷ (1, bit_of h.order) ∷ (2, h.segment)
    ∷ (11, h.first) ∷ []

-- the six octets of the header with these fields
abbrev pub tm_octets : TmFields → List ℕ
tm_octets h = octets_of 6 (tm_fields h)
