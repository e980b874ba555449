use Rattle.sl_tmflow.proofs.lemmas.Form.Order.{channels_never_fall, each_carries_packets, mc_counts, packets_lie_end_to_end, vc_counts}
use Rattle.sl_tmflow.proofs.laws.normal_form_is_in_order.Goals as goal

pub returns : goal.returns
returns c = record { fields = each_carries_packets; channels = channels_never_fall; mc = mc_counts; vc = vc_counts; packets = packets_lie_end_to_end }
