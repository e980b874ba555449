use Rattle.std.proofs.Common.{sym, ap, subst, ◌∙◌, arith}
use Rattle.sl_tcframe.specs.VcSet.{AreRising, has_vc}
use Rattle.sl_tcframe.proofs.VcSetLemmas.{has_flag, numbers_rise}
use Rattle.sl_tcframe.proofs.vc_set.VcSet.has.Goals as goal

pub returns-clause-value : goal.returns-clause-value
returns-clause-value c = sym (has_flag 0 c.self.inside.flags c.from.result c.args.vc (omega (arith, c.from.ensures))) ∙ ap (λ vcs. has_vc vcs c.args.vc) c.self.view_is

pub returns-clause-numbers : goal.returns-clause-numbers
returns-clause-numbers c = subst (AreRising 0) c.self.view_is (numbers_rise 0 c.self.inside.flags (omega (arith, c.self.invariant)))
