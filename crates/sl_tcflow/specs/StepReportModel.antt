-- A `TcStep` stands for its report.
use Rattle.std.specs.Prelude.{◌≤◌, IfSome}
use Rattle.sl_packet.specs.Packet.{longest_packet}
use Rattle.sl_tcflow.specs.StepReport.{StepReport}
use Rattle.sl_tcflow.specs.declared.report.TcStep.TheInside.{Inside}

-- what a `TcStep` stands for
abbrev pub report_of : Inside → StepReport
report_of s = record {
  verdict = s.verdict;
  map = s.map;
  packets = s.packets;
  idle = s.idle;
  stray = s.stray;
  dropped = s.dropped;
  long = s.long;
  tail = s.tail;
}

-- the invariant of a `TcStep`: the MAP is 0 to 63, and a dropped series has at most 65,542 octets
pub record IsReport (s : Inside) : Type 0 where
  pub map : s.map ≤ 63
  pub dropped : IfSome s.dropped (λ octets. octets ≤ longest_packet)

-- the `TcStep` that stands for a report
abbrev pub inside_of : StepReport → Inside
inside_of r = record {
  verdict = r.verdict;
  map = r.map;
  packets = r.packets;
  idle = r.idle;
  stray = r.stray;
  dropped = r.dropped;
  long = r.long;
  tail = r.tail;
}
