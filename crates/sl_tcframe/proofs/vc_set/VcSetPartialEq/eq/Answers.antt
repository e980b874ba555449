use Rattle.std.proofs.Common.{rules}
use Rattle.sl_tcframe.specs.VcSetBack.{flags_back}
use Rattle.sl_tcframe.proofs.vc_set.VcSetPartialEq.eq.Goals as goal

pub returns : goal.returns
returns c = search (rules, flags_back)
