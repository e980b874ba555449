use Rattle.std.proofs.Common.{arith, ap, length}
use Rattle.sl_tcflow.proofs.lemmas.Count.{counts_within}
use Rattle.sl_tcflow.proofs.unit_count.UnitCount.of.Goals as goal

pub overflow_cast-result-2 : goal.overflow_cast-result-2
overflow_cast-result-2 c = omega (arith, counts_within c.args.octets.now, c.count_packets-counted.ensures.packets, c.requires)

pub overflow_cast-result-3 : goal.overflow_cast-result-3
overflow_cast-result-3 c = omega (arith, counts_within c.args.octets.now, c.count_packets-counted.ensures.idle, c.requires)

pub invariant_of-result-clause-within : goal.invariant_of-result-clause-within
invariant_of-result-clause-within c =
    omega (arith, counts_within c.args.octets.now, c.count_packets-counted.ensures.packets, c.count_packets-counted.ensures.idle, ap length c.count_packets-counted.ensures.remainder)
