use Rattle.sl_sync.proofs.CaduLawLemmas.{units_around}
use Rattle.sl_sync.proofs.laws.units_around_are_read.Goals as goal

pub returns : goal.returns
returns c = units_around
