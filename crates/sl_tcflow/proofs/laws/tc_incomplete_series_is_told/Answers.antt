use Rattle.sl_tcflow.proofs.lemmas.Series.Incomplete.{what_is_told_is_incomplete, incomplete_is_told, one_begins, one_is_incomplete, incomplete_fits}
use Rattle.sl_tcflow.proofs.laws.tc_incomplete_series_is_told.Goals as goal

pub returns : goal.returns
returns c = record { is = what_is_told_is_incomplete; all = incomplete_is_told; begins = one_begins; one = one_is_incomplete; fits = incomplete_fits }
