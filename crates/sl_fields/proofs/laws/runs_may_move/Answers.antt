use Rattle.sl_fields.proofs.FecfRecurrence.{runs_may_move}
use Rattle.sl_fields.proofs.laws.runs_may_move.Goals as goal

pub returns : goal.returns
returns c = runs_may_move
