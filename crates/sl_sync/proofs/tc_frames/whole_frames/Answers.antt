use Rattle.std.proofs.Common.{arith}
use Rattle.sl_sync.proofs.TcFramesLemmas.{has_frame-tells, passing-none, passing-more, passing-done}
use Rattle.sl_sync.proofs.tc_frames.whole_frames.Goals as goal

pub each-init : goal.each-init
each-init c = passing-none c.args.octets.now

pub each-preserved : goal.each-preserved
each-preserved c = (passing-more c.args.octets.now c.each.rest.now _ c.each.count c.in-Some.len c.each.invariant c.in-Some.ensures.some.0 c.in-Some.ensures.some.1 c.behind-rest.ensures).0

pub each-smaller : goal.each-smaller
each-smaller c = (passing-more c.args.octets.now c.each.rest.now _ c.each.count c.in-Some.len c.each.invariant c.in-Some.ensures.some.0 c.in-Some.ensures.some.1 c.behind-rest.ensures).1

pub overflow_add-count : goal.overflow_add-count
overflow_add-count c =
    let tells = has_frame-tells c.each.rest.now c.in-Some.ensures.some.0 in
    omega (arith, c.each.invariant.inside, tells.0, tells.1)

pub returns-clause-count : goal.returns-clause-count
returns-clause-count c = (passing-done c.args.octets.now c.each.rest.now c.each.count c.each.invariant c.in_default.ensures.none).0

pub returns-clause-len : goal.returns-clause-len
returns-clause-len c = (passing-done c.args.octets.now c.each.rest.now c.each.count c.each.invariant c.in_default.ensures.none).1
