use Rattle.sl_packet.proofs.SamePackets.{AreSameBelow}
use Rattle.sl_packet.proofs.delivered.Delivered.has_same_packets.Given as goal

abbrev pub invariant-loop-channel : goal.invariant-loop-channel
invariant-loop-channel l = AreSameBelow l.self.lists l.other.lists l.channel
