use Rattle.std.proofs.Common.{slice_index_or, ap, subst, ◌∙◌}
use Rattle.sl_cop.specs.Starts.{AreStarts}
use Rattle.sl_cop.proofs.starts.Starts.start.Goals as goal

pub returns-clause-value : goal.returns-clause-value
returns-clause-value c = ap (λ vc. slice_index_or c.self.inside.vrs vc 0) c.from.ensures ∙ ap (λ vrs. slice_index_or vrs c.args.vc 0) c.self.view_is

pub returns-clause-octets : goal.returns-clause-octets
returns-clause-octets c = subst AreStarts c.self.view_is c.self.invariant
