use Rattle.std.proofs.Common.{◌+◌, ◌-◌}
use Rattle.sl_sync.specs.Reading.{most_octets}
use Rattle.sl_sync.proofs.ReadingLemmas.{IsReading}
use Rattle.sl_sync.proofs.read.copy_frames.Given as goal

abbrev pub invariant-chunks : goal.invariant-chunks
invariant-chunks g l =
    IsReading g.R.Read.remaining g.W.Write.contents (g.U.Units.rule l.units) l.fn.reader l.reader l.fn.writer l.writer l.octets l.kept

abbrev pub decreases-chunks : goal.decreases-chunks
decreases-chunks g l = most_octets + 1 - l.octets
