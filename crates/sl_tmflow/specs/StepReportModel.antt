-- A `TmStep` stands for a report, field by field.
use Rattle.std.specs.Prelude.{◌≤◌}
use Rattle.sl_tmflow.specs.Incomplete.{longest_incomplete}
use Rattle.sl_tmflow.specs.StepReport.{StepReport}
use Rattle.sl_tmflow.specs.declared.report.TmStep.TheInside.{Inside}

abbrev pub report_of : Inside → StepReport
report_of s = record { packets = s.packets; idle = s.idle; gap = s.gap; dropped = s.dropped; foreign = s.foreign }

-- the invariant of a `TmStep`: the packet that the frame breaks off has at most 65,541 octets so far
pub record IsReport (s : Inside) : Type 0 where
  pub dropped : s.dropped ≤ longest_incomplete

abbrev pub inside_of : StepReport → Inside
inside_of r = record { packets = r.packets; idle = r.idle; gap = r.gap; dropped = r.dropped; foreign = r.foreign }
