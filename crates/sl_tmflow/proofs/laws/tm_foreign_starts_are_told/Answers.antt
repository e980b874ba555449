use Rattle.sl_tmflow.proofs.lemmas.Anomaly.{each_foreign_start_is_told, each_told_is_a_foreign_start}
use Rattle.sl_tmflow.proofs.laws.tm_foreign_starts_are_told.Goals as goal

pub returns : goal.returns
returns c = record { each = each_foreign_start_is_told; only = each_told_is_a_foreign_start }
