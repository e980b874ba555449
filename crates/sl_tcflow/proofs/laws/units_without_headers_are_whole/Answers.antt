use Rattle.sl_tcflow.proofs.lemmas.Series.Whole.{plain_unit_is_whole, no_plain_series_is_incomplete, plain_unit_has_tail_alone}
use Rattle.sl_tcflow.proofs.laws.units_without_headers_are_whole.Goals as goal

pub returns : goal.returns
returns c = record { segment = plain_unit_is_whole; incomplete = no_plain_series_is_incomplete; amiss = plain_unit_has_tail_alone }
