use Rattle.sl_packet.proofs.PacketLemmas.{one_packet}
use Rattle.sl_packet.proofs.laws.packets_are_prefix_free.Goals as goal

pub returns-clause-one : goal.returns-clause-one
returns-clause-one c = one_packet
