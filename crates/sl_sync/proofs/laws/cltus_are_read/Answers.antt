use Rattle.sl_sync.proofs.CltuLawLemmas.{cltus}
use Rattle.sl_sync.proofs.laws.cltus_are_read.Goals as goal

pub returns : goal.returns
returns c = cltus
