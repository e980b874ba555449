use Rattle.std.proofs.Common.{length}
use Rattle.sl_io.proofs.StreamLemmas.{IsWriting}
use Rattle.sl_io.proofs.streams.write_text.Given as goal

abbrev pub invariant-loop-left : goal.invariant-loop-left
invariant-loop-left g l = IsWriting g.W.Write.contents l.initial.writer l.writer l.initial.left l.left

abbrev pub decreases-loop-left : goal.decreases-loop-left
decreases-loop-left g l = length l.left
