use Rattle.sl_tmflow.proofs.lemmas.Delivery.Handed.{delivered_are_handed_over}
use Rattle.sl_tmflow.proofs.laws.tm_packets_are_handed_over.Goals as goal

pub returns : goal.returns
returns c = delivered_are_handed_over
