use Rattle.sl_tcflow.proofs.lemmas.Form.Carried.{each_packet_is_one_series}
use Rattle.sl_tcflow.proofs.lemmas.Form.Order.{vcs_never_fall, maps_never_fall, ns_counts}
use Rattle.sl_tcflow.proofs.laws.normal_form_is_in_order.Goals as goal

pub returns : goal.returns
returns c = record { channels = vcs_never_fall; maps = maps_never_fall; ns = ns_counts; packets = each_packet_is_one_series }
