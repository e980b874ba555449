-- The report that an extractor or a counter answers for a frame.
use Rattle.std.specs.Prelude.{ℕ, Bool, Option}

-- the report on one frame
pub record StepReport : Type 0 where
  -- how many packets end in the frame, idle packets left out
  pub packets : ℕ
  -- how many idle packets end in the frame
  pub idle : ℕ
  -- the virtual channel frame count that was expected, where the frame has another one
  pub gap : Option ℕ
  -- how many octets so far the packet has that the frame breaks off, and 0 where there is none
  pub dropped : ℕ
  -- whether octets of another packet version than 0 stand at a packet start of the frame
  pub foreign : Bool

-- the number of packets and the number of idle packets; only contracts of private functions cite
-- this
abbrev pub counts_of : StepReport → ℕ × ℕ
counts_of report = (report.packets, report.idle)
