use Rattle.sl_cop.proofs.FarmLemmas.{runs_go_on, runs_end_in_a_step, runs_are_steps}
use Rattle.sl_cop.proofs.laws.runs_go_on_by_a_step.Goals as goal

pub returns-clause-go_on : goal.returns-clause-go_on
returns-clause-go_on c = runs_go_on

pub returns-clause-end_in : goal.returns-clause-end_in
returns-clause-end_in c = runs_end_in_a_step

pub returns-clause-steps : goal.returns-clause-steps
returns-clause-steps c = runs_are_steps
