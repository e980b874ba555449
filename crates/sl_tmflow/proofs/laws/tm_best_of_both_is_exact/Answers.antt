use Rattle.sl_tmflow.proofs.lemmas.Merge.{best_breaks_no_run, best_is_exact}
use Rattle.sl_tmflow.proofs.laws.tm_best_of_both_is_exact.Goals as goal

pub returns : goal.returns
returns c = record { exactly = best_is_exact; unbroken = best_breaks_no_run }
