use Rattle.sl_tcflow.proofs.lemmas.Series.Divided.{each_is_divided}
use Rattle.sl_tcflow.proofs.laws.packets_are_divided_into_segments.Goals as goal

pub returns : goal.returns
returns c = record { segments = each_is_divided }
