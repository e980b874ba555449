use Rattle.sl_tmflow.proofs.lemmas.Anomaly.{each_gap_is_told, each_told_is_a_gap}
use Rattle.sl_tmflow.proofs.laws.tm_gaps_are_told.Goals as goal

pub returns : goal.returns
returns c = record { each = each_gap_is_told; only = each_told_is_a_gap }
