use Rattle.sl_engine.proofs.lemmas.Verbs.Check.FewTm.{few_open}
use Rattle.sl_engine.proofs.verbs.check.checked.PacketCounterChecked.open_below.Goals as goal

pub returns-clause-few : goal.returns-clause-few
returns-clause-few c = few_open
