use Rattle.sl_tmflow.proofs.lemmas.Delivery.Push.{delivered_push}
use Rattle.sl_tmflow.proofs.laws.tm_packets_end_once.Goals as goal

pub returns : goal.returns
returns c = delivered_push
