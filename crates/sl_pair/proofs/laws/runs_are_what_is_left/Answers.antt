use Rattle.sl_pair.proofs.OrderLemmas.{by_apid_is_stable, runs_are_joined}
use Rattle.sl_pair.proofs.laws.runs_are_what_is_left.Goals as goal

pub returns : goal.returns
returns c = record { order = by_apid_is_stable; runs = runs_are_joined }
