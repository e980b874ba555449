use Rattle.sl_tcflow.proofs.lemmas.Series.OneMore.{packets_next}
use Rattle.sl_tcflow.proofs.laws.tc_packets_end_once.Goals as goal

pub returns : goal.returns
returns c = record { packets = packets_next }
