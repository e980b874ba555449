use Rattle.sl_packet.proofs.IdlePacketLemmas.{idle_packet_is_a_packet, idle_packet_is_idle, length-idle_packet}
use Rattle.sl_packet.proofs.laws.idle_packets_are_idle.Goals as goal

pub returns : goal.returns
returns c = λ len least most. record {
  is_packet = idle_packet_is_a_packet len least most;
  is_idle = idle_packet_is_idle len least most;
  has_len = length-idle_packet len least;
}
