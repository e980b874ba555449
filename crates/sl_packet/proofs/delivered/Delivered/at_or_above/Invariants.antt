use Rattle.sl_packet.specs.Delivered.{HasNone}
use Rattle.sl_packet.proofs.delivered.Delivered.at_or_above.Given as goal

abbrev pub invariant-loop-candidate : goal.invariant-loop-candidate
invariant-loop-candidate l = HasNone l.self l.channel l.candidate
