use Rattle.sl_engine.proofs.lemmas.Verbs.Check.FewTc.{few_lines}
use Rattle.sl_engine.proofs.verbs.check.checked.UnitCounterAnomalyLines.anomaly_lines.Goals as goal

pub returns-clause-few : goal.returns-clause-few
returns-clause-few c = few_lines c.args.offset
