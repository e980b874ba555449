use Rattle.sl_packet.proofs.PacketsLemmas.{others_are_prefixes}
use Rattle.sl_packet.proofs.laws.front_packets_are_longest.Goals as goal

pub returns : goal.returns
returns c = others_are_prefixes
