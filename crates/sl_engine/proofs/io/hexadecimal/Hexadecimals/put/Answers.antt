use Rattle.std.proofs.Common.{◌*◌, ◌+◌, arith, length}
use Rattle.sl_engine.proofs.lemmas.Io.Hexadecimal.{none_put, more_put, all_put}
use Rattle.sl_engine.proofs.io.hexadecimal.Hexadecimals.put.Goals as goal

pub loop-i-init : goal.loop-i-init
loop-i-init c = none_put c.args.octets.now c.args.buffer.now c.args.at

pub loop-i-preserved : goal.loop-i-preserved
loop-i-preserved c = more_put (32 * (c.loop-i.i + 1)) c.loop-i.invariant c.put_thirty_two.ensures (omega arith) (omega arith) (omega arith)

pub returns-after-loop-i-clause-text : goal.returns-after-loop-i-clause-text
returns-after-loop-i-clause-text c =
    all_put (more_put (length c.args.octets.now) c.loop-i.invariant c.put_thirty_two-then-many-ge32.ensures (omega arith) (omega arith) (omega arith))

pub returns-then-many-ge16-clause-text : goal.returns-then-many-ge16-clause-text
returns-then-many-ge16-clause-text c =
    let octets = c.args.octets.now in
    let first = more_put 16 (none_put octets c.args.buffer.now c.args.at) c.put_sixteen.ensures (omega arith) (omega arith) (omega arith) in
    all_put (more_put (length octets) first c.put_sixteen-then-many-ge16.ensures (omega arith) (omega arith) (omega arith))

pub returns-then-many-ge8-clause-text : goal.returns-then-many-ge8-clause-text
returns-then-many-ge8-clause-text c =
    let octets = c.args.octets.now in
    let first = more_put 8 (none_put octets c.args.buffer.now c.args.at) c.put_eight.ensures (omega arith) (omega arith) (omega arith) in
    all_put (more_put (length octets) first c.put_eight-then-many-ge8.ensures (omega arith) (omega arith) (omega arith))

pub returns-then-many-ge4-clause-text : goal.returns-then-many-ge4-clause-text
returns-then-many-ge4-clause-text c =
    let octets = c.args.octets.now in
    let first = more_put 4 (none_put octets c.args.buffer.now c.args.at) c.put_four.ensures (omega arith) (omega arith) (omega arith) in
    all_put (more_put (length octets) first c.put_four-then-many-ge4.ensures (omega arith) (omega arith) (omega arith))
