-- The Communications Link Control Word (CLCW), CCSDS 232.0-B: four octets.
use Rattle.std.specs.Prelude.{ℕ, ◌^◌, ◌<◌, Bool, false, List, [], ◌∷◌}
use Rattle.sl_fields.specs.Field.{bit_of, field, flag, octets_of}

-- The fields of the CLCW, in their order. The field `word` is the control word type, one bit.
pub record ClcwFields : Type 0 where
  pub word : ℕ
  pub version : ℕ
  pub status : ℕ
  pub cop : ℕ
  pub vc : ℕ
  pub spare : ℕ
  pub no_rf : Bool
  pub no_lock : Bool
  pub lockout : Bool
  pub wait : Bool
  pub retransmit : Bool
  pub farm_b : ℕ
  pub spare_end : Bool
  pub report : ℕ

-- each field is within the range of its bits
pub record FitsClcw (w : ClcwFields) : Type 0 where
  pub word : w.word < 2 ^ 1
  pub version : w.version < 2 ^ 2
  pub status : w.status < 2 ^ 3
  pub cop : w.cop < 2 ^ 2
  pub vc : w.vc < 2 ^ 6
  pub spare : w.spare < 2 ^ 2
  pub farm_b : w.farm_b < 2 ^ 2
  pub report : w.report < 2 ^ 8

-- The word that reports the state of FARM-1 on a virtual channel. The COP in effect is 1, which is
-- COP-1. The control word type, the CLCW version, the status, the spare bits and the flags No RF
-- Available, No Bit Lock and Wait are 0.
abbrev pub farm_word : ℕ → Bool → Bool → ℕ → ℕ → ClcwFields
farm_word vc lockout retransmit farm_b report =
    record {
      word = 0;
      version = 0;
      status = 0;
      cop = 1;
      vc = vc;
      spare = 0;
      no_rf = false;
      no_lock = false;
      lockout = lockout;
      wait = false;
      retransmit = retransmit;
      farm_b = farm_b;
      spare_end = false;
      report = report;
    }

-- the word that is read from four octets
abbrev pub clcw_word : List ℕ → ClcwFields
clcw_word octets =
    record {
      word = field 4 0 1 octets;
      version = field 4 1 2 octets;
      status = field 4 3 3 octets;
      cop = field 4 6 2 octets;
      vc = field 4 8 6 octets;
      spare = field 4 14 2 octets;
      no_rf = flag 4 16 octets;
      no_lock = flag 4 17 octets;
      lockout = flag 4 18 octets;
      wait = flag 4 19 octets;
      retransmit = flag 4 20 octets;
      farm_b = field 4 21 2 octets;
      spare_end = flag 4 23 octets;
      report = field 4 24 8 octets;
    }

-- the fields in their order, each as its width and its value
abbrev pub clcw_fields : ClcwFields → List (ℕ × ℕ)
clcw_fields w =
    (1, w.word) ∷ (2, w.version) ∷ (3, w.status) ∷ (2, w.cop)
    ∷ (6, w.vc) ∷ (2, w.spare)
    ∷ (1, bit_of w.no_rf) ∷ (1, bit_of w.no_lock) ∷ (1, bit_of w.lockout) ∷ (1, bit_of w.wait)
    ∷ (1, bit_of w.retransmit) ∷ (2, w.farm_b) ∷ (1, bit_of w.spare_end)
    ∷ (8, w.report) ∷ []

-- the four octets of the word with these fields
abbrev pub clcw_octets : ClcwFields → List ℕ
clcw_octets w = octets_of 4 (clcw_fields w)
