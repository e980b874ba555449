use Rattle.sl_sync.proofs.CaduLawLemmas.{fixed_cuts}
use Rattle.sl_sync.proofs.laws.fixed_cuts_are_read.Goals as goal

pub returns : goal.returns
returns c = fixed_cuts
