use Rattle.std.proofs.Common.{arith}
use Rattle.sl_packet.proofs.CountLemmas.{packets_within}
use Rattle.sl_tmflow.proofs.channel_outline.counted_from.Goals as goal

pub overflow_cast-packets : goal.overflow_cast-packets
overflow_cast-packets c = omega (arith, packets_within c.args.octets.now, c.count_packets-counted.ensures.packets, c.requires)

pub overflow_cast-idle : goal.overflow_cast-idle
overflow_cast-idle c = omega (arith, packets_within c.args.octets.now, c.count_packets-counted.ensures.idle, c.requires)

pub returns-clause-few : goal.returns-clause-few
returns-clause-few c = omega (arith, packets_within c.args.octets.now, c.count_packets-counted.ensures.packets, c.count_packets-counted.ensures.idle, c.requires)
