use Rattle.std.proofs.Common.{◌-◌}
use Rattle.sl_c.proofs.LinkLemmas.{AreSetFrom}
use Rattle.sl_c.proofs.link.plain_of.Given as goal

abbrev pub invariant-loop-below : goal.invariant-loop-below
invariant-loop-below l = AreSetFrom (64 - l.below) l.flags l.plain
