use Rattle.sl_tcflow.proofs.lemmas.Series.Listed.{each_is_series, each_series_is_listed, series_are_apart}
use Rattle.sl_tcflow.proofs.laws.tc_series_are_listed.Goals as goal

pub returns : goal.returns
returns c = record { each = each_is_series; all = each_series_is_listed; apart = series_are_apart }
