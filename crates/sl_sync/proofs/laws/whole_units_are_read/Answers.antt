use Rattle.sl_sync.proofs.CaduLawLemmas.{whole_units}
use Rattle.sl_sync.proofs.laws.whole_units_are_read.Goals as goal

pub returns : goal.returns
returns c = whole_units
