use Rattle.std.proofs.Common.{length}
use Rattle.sl_packet.proofs.HandOver.{HasCounted}
use Rattle.sl_packet.proofs.packets.count_packets.Given as goal

abbrev pub invariant-loop-packet : goal.invariant-loop-packet
invariant-loop-packet l = HasCounted l.octets l.counted.remainder.now l.counted.packets l.counted.idle

abbrev pub decreases-loop-packet : goal.decreases-loop-packet
decreases-loop-packet l = length l.counted.remainder.now
