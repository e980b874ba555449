-- The Communications Link Control Word (CLCW), CCSDS 232.0-B, that FARM-1 reports.
use Rattle.std.specs.Prelude.{ℕ}
use Rattle.sl_fields.specs.Clcw.{ClcwFields, farm_word}
use Rattle.sl_cop.specs.Farm.{FarmState}

-- the word that reports a state on the virtual channel `vc`: the report value is V(R), and the
-- fields that the state doesn't give are those of `farm_word`
abbrev pub clcw_of : ℕ → FarmState → ClcwFields
clcw_of vc s = farm_word vc s.lockout s.retransmit s.farm_b s.vr
