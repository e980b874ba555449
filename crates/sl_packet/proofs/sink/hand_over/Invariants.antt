use Rattle.std.proofs.Common.{length}
use Rattle.sl_packet.proofs.HandOver.{HasHanded}
use Rattle.sl_packet.proofs.sink.hand_over.Given as goal

abbrev pub invariant-loop-packet : goal.invariant-loop-packet
invariant-loop-packet g l =
    HasHanded g.S.PacketSink.taking g.S.PacketSink.failures l.initial.sink l.channel l.octets l.handed.remainder.now l.sink l.handed.packets l.handed.idle

abbrev pub decreases-loop-packet : goal.decreases-loop-packet
decreases-loop-packet g l = length l.handed.remainder.now
