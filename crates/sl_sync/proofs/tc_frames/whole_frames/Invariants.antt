use Rattle.std.proofs.Common.{length}
use Rattle.sl_sync.proofs.TcFramesLemmas.{IsPassing}
use Rattle.sl_sync.proofs.tc_frames.whole_frames.Given as goal

abbrev pub invariant-each : goal.invariant-each
invariant-each l = IsPassing l.octets l.rest l.count

abbrev pub decreases-each : goal.decreases-each
decreases-each l = length l.rest
