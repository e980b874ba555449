-- The report of a receiver or a counter on one frame.
use Rattle.std.specs.Prelude.{ℕ, Bool, Option}
use Rattle.sl_cop.specs.declared.verdict.Verdict.{Verdict}

-- the report on one frame: FARM-1's verdict, the MAP, and what the frame's unit brought
pub record StepReport : Type 0 where
  pub verdict : Verdict
  -- the MAP of the frame's unit, 0 where the frame carries none
  pub map : ℕ
  -- how many packets the service data unit has that the frame's unit completes, idle ones left out
  pub packets : ℕ
  -- how many idle packets that service data unit has
  pub idle : ℕ
  -- whether the frame's unit is out of sequence
  pub stray : Bool
  -- how many octets the series has that the frame's unit drops, if it drops one
  pub dropped : Option ℕ
  -- whether the incomplete series is given up, because it is too long with the frame's unit
  pub long : Bool
  -- how many octets are left after the last whole packet of that service data unit
  pub tail : ℕ

-- the numbers of packets and of idle packets; only contracts of private functions cite this
abbrev pub counts_of : StepReport → ℕ × ℕ
counts_of report = (report.packets, report.idle)
