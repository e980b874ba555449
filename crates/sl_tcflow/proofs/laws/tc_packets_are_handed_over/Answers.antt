use Rattle.sl_tcflow.proofs.lemmas.Reception.Handed.{delivered_are_handed_over}
use Rattle.sl_tcflow.proofs.laws.tc_packets_are_handed_over.Goals as goal

pub returns : goal.returns
returns c = delivered_are_handed_over
