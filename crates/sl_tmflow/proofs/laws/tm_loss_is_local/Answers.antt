use Rattle.sl_tmflow.proofs.lemmas.Loss.KeptRun.{kept_runs_are_left, runs_are_kept}
use Rattle.sl_tmflow.proofs.lemmas.Loss.Local.{each_is_left, none_is_new}
use Rattle.sl_tmflow.proofs.laws.tm_loss_is_local.Goals as goal

pub returns : goal.returns
returns c = record { none_new = none_is_new; each_left = each_is_left; all_kept = runs_are_kept; kept_left = kept_runs_are_left }
