use Rattle.sl_tmflow.proofs.lemmas.Delivery.Start.{each_is_start, is_among}
use Rattle.sl_tmflow.proofs.laws.tm_packet_starts_are_listed.Goals as goal

pub returns : goal.returns
returns c = record { each = each_is_start; all = is_among }
