use Rattle.std.proofs.Common.{slice_set, ap, ◌∙◌}
use Rattle.sl_cop.proofs.StartsLemmas.{changed_are_starts}
use Rattle.sl_cop.proofs.starts.Starts.with.Goals as goal

pub invariant_of-result : goal.invariant_of-result
invariant_of-result c = changed_are_starts c.self.inside.vrs c.from.result c.args.vr c.self.invariant c.ranges.vr.fits

pub returns-clause-value : goal.returns-clause-value
returns-clause-value c = ap (λ vc. slice_set c.self.inside.vrs vc c.args.vr) c.from.ensures ∙ ap (λ vrs. slice_set vrs c.args.vc c.args.vr) c.self.view_is

pub returns-clause-octets : goal.returns-clause-octets
returns-clause-octets c = changed_are_starts c.self.inside.vrs c.from.result c.args.vr c.self.invariant c.ranges.vr.fits
