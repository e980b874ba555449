use Rattle.sl_engine.proofs.lemmas.Kind.Tm.{none_processed}
use Rattle.sl_engine.proofs.kind.tm.ExtractorDeliverer.begin.Goals as goal

pub returns : goal.returns
returns c = none_processed c.args._managed.now c.new.ensures.processed
