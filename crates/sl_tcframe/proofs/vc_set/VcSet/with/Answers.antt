use Rattle.std.proofs.Common.{true, slice_set, ap, ◌∙◌, arith}
use Rattle.std.proofs.Math.ListN.{length-set}
use Rattle.sl_tcframe.specs.VcSet.{with_vc}
use Rattle.sl_tcframe.proofs.VcSetLemmas.{numbers_rise, with_flag}
use Rattle.sl_tcframe.proofs.vc_set.VcSet.with.Goals as goal

pub returns-clause-value : goal.returns-clause-value
returns-clause-value c =
    with_flag 0 c.self.inside.flags c.from.result c.args.vc (omega (arith, c.from.ensures)) (omega (arith, c.from.ensures, c.self.invariant, c.requires))
    ∙ ap (λ vcs. with_vc vcs c.args.vc) c.self.view_is

pub returns-clause-numbers : goal.returns-clause-numbers
returns-clause-numbers c = numbers_rise 0 (slice_set c.self.inside.flags c.from.result true) (omega (arith, length-set c.self.inside.flags c.from.result true, c.self.invariant))
