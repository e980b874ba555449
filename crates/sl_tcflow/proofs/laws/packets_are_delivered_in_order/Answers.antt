use Rattle.sl_tcflow.proofs.lemmas.Reception.Reordered.{ad_units_are_all, packets_in_order, recorded_packets_in_order}
use Rattle.sl_tcflow.proofs.laws.packets_are_delivered_in_order.Goals as goal

pub returns : goal.returns
returns c = record { all = ad_units_are_all; packets = packets_in_order; recording = recorded_packets_in_order }
