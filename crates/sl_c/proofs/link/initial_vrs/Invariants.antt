use Rattle.sl_c.proofs.LinkLemmas.{AreTaken}
use Rattle.sl_c.proofs.link.initial_vrs.Given as goal

abbrev pub invariant-loop-vc : goal.invariant-loop-vc
invariant-loop-vc l = AreTaken l.vrs l.starts l.vc
