use Rattle.std.proofs.Common.{length}
use Rattle.sl_engine.proofs.lemmas.Verbs.Packets.Printer.{IsPushing}
use Rattle.sl_engine.proofs.verbs.packets.lines.push_octets.Given as goal

abbrev pub invariant-loop-left : goal.invariant-loop-left
invariant-loop-left g l = IsPushing g.W.Write.contents l.fn.out l.out l.octets l.left

abbrev pub decreases-loop-left : goal.decreases-loop-left
decreases-loop-left g l = length l.left
