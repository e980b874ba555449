use Rattle.sl_link.proofs.lemmas.Laws.Anomaly.Line.{lines_tell}
use Rattle.sl_link.proofs.lemmas.Laws.Anomaly.Tc.{tc_anomalies_are_counted}
use Rattle.sl_link.proofs.lemmas.Laws.Anomaly.Tm.{tm_anomalies_are_counted}
use Rattle.sl_link.proofs.laws.anomalies_have_their_own_lines.Goals as goal

pub returns-clause-lines : goal.returns-clause-lines
returns-clause-lines c = lines_tell

pub returns-clause-tm : goal.returns-clause-tm
returns-clause-tm c = tm_anomalies_are_counted

pub returns-clause-tc : goal.returns-clause-tc
returns-clause-tc c = tc_anomalies_are_counted
