use Rattle.std.proofs.Common.{arith}
use Rattle.sl_packet.proofs.CountLemmas.{packets_within}
use Rattle.sl_tcflow.proofs.hand_over.hand.Goals as goal

pub overflow_cast-result : goal.overflow_cast-result
overflow_cast-result g c = omega (arith, packets_within c.args.octets.now, c.in-Ok.ensures.packets, c.requires.short)

pub overflow_cast-result-in-Ok : goal.overflow_cast-result-in-Ok
overflow_cast-result-in-Ok g c = omega (arith, packets_within c.args.octets.now, c.in-Ok.ensures.idle, c.requires.short)
