use Rattle.std.proofs.Common.{get_or, add-one, arith}
use Rattle.std.proofs.Math.Seq.{drop-cons}
use Rattle.std.proofs.lemmas.List.{drop_all}
use Rattle.sl_fields.proofs.Packing.{packing-next, packed_lt}
use Rattle.sl_fields.proofs.bits.pack.Goals as goal

pub overflow_shl-number : goal.overflow_shl-number
overflow_shl-number c =
    let at_field = rw (drop-cons c.args.fields.now c.loop-width.width-index (0, 0) c.loop-width-test.true) at c.loop-width.invariant in
    let inside = at_field.room in omega arith

pub loop-width-preserved : goal.loop-width-preserved
loop-width-preserved c =
    let at_field = rw (drop-cons c.args.fields.now c.loop-width.width-index (0, 0) c.loop-width-test.true) at c.loop-width.invariant in
    rw add-one (packing-next c.loop-width.number (get_or c.args.fields.now c.loop-width.width-index (0, 0)) _ c.args.fields.now c.requires.fit c.requires.room at_field)

pub returns-clause-fits : goal.returns-clause-fits
returns-clause-fits c =
    let value = rw (drop_all c.loop-width.width-index c.args.fields.now c.loop-width-test.false) at c.loop-width.invariant.value in
    omega (arith, value, packed_lt c.args.fields.now c.requires.fit)
