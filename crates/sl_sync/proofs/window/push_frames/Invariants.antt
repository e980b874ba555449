use Rattle.std.proofs.Common.{length}
use Rattle.sl_sync.proofs.WindowLemmas.{IsCutting}
use Rattle.sl_sync.proofs.window.push_frames.Given as goal

abbrev pub invariant-parts : goal.invariant-parts
invariant-parts g l =
    IsCutting (g.U.Units.rule l.units) l.ended l.fn.from.0 l.window l.place l.rest l.fn.text.items l.text.items l.fn.from.1 l.totals

abbrev pub decreases-parts : goal.decreases-parts
decreases-parts g l = length l.rest
