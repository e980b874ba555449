use Rattle.sl_engine.proofs.lemmas.Verbs.Check.FewTm.{few_lines}
use Rattle.sl_engine.proofs.verbs.check.checked.PacketCounterAnomalyLines.anomaly_lines.Goals as goal

pub returns-clause-few : goal.returns-clause-few
returns-clause-few c = few_lines c.args.offset
