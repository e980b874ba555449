use Rattle.std.proofs.Common.{arith}
use Rattle.sl_packet.proofs.CountLemmas.{packets_within}
use Rattle.sl_tmflow.proofs.hand_over.hand.Goals as goal

pub overflow_cast-report : goal.overflow_cast-report
overflow_cast-report g c = omega (arith, packets_within c.args.octets.now, c.in-Ok.ensures.packets, c.requires.short)

pub overflow_cast-report-in-Ok : goal.overflow_cast-report-in-Ok
overflow_cast-report-in-Ok g c = omega (arith, packets_within c.args.octets.now, c.in-Ok.ensures.idle, c.requires.short)

pub returns-in-Ok-clause-few : goal.returns-in-Ok-clause-few
returns-in-Ok-clause-few g c = omega (arith, packets_within c.args.octets.now, c.in-Ok.ensures.packets, c.in-Ok.ensures.idle)
