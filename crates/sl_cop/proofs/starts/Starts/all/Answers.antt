use Rattle.sl_cop.proofs.StartsLemmas.{all_are_starts}
use Rattle.sl_cop.proofs.starts.Starts.all.Goals as goal

pub invariant_of-result : goal.invariant_of-result
invariant_of-result c = all_are_starts c.args.vr c.ranges.vr.fits

pub returns-clause-octets : goal.returns-clause-octets
returns-clause-octets c = all_are_starts c.args.vr c.ranges.vr.fits
