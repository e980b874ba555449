use Rattle.std.proofs.Common.{arith}
use Rattle.sl_pair.proofs.RunsLemmas.{last_alone}
use Rattle.sl_pair.proofs.runs.first_run.Goals as goal

pub returns-after-loop-packets : goal.returns-after-loop-packets
returns-after-loop-packets c =
    let i = c.loop-packets.invariant in
    omega (arith, i.2, last_alone c.args.left.now c.loop-packets.packets i.0 i.1 c.loop-packets-test.false)
