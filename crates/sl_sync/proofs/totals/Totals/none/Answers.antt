use Rattle.std.proofs.Common.{refl}
use Rattle.sl_sync.specs.Totals.{totals_of}
use Rattle.sl_sync.proofs.totals.Totals.none.Goals as goal

pub returns : goal.returns
unfolding totals_of
returns c = refl
