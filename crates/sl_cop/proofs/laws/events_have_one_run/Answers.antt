use Rattle.sl_cop.proofs.FarmLemmas.{each_has_run, has_run_once}
use Rattle.sl_cop.proofs.laws.events_have_one_run.Goals as goal

pub returns-clause-each : goal.returns-clause-each
returns-clause-each c = each_has_run

pub returns-clause-once : goal.returns-clause-once
returns-clause-once c = has_run_once
