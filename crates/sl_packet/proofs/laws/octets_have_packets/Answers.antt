use Rattle.sl_packet.proofs.PacketsLemmas.{each_has_packets, has_packets_once}
use Rattle.sl_packet.proofs.laws.octets_have_packets.Goals as goal

pub returns-clause-each : goal.returns-clause-each
returns-clause-each c = each_has_packets

pub returns-clause-once : goal.returns-clause-once
returns-clause-once c = has_packets_once
