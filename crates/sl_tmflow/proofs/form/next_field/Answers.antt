use Rattle.std.proofs.Common.{length, map, ap, arith, take}
use Rattle.std.specs.List.{concat}
use Rattle.std.specs.Vec.{vec_items}
use Rattle.sl_tmflow.proofs.lemmas.Form.Field.{octets_more, one_more_inside}
use Rattle.sl_tmflow.proofs.form.next_field.Goals as goal

pub loop-packet-preserved : goal.loop-packet-preserved
loop-packet-preserved c =
    let l = c.loop-packet in
    let i = l.invariant in
    let packets = c.args.packets.now in
    let packet = c.in-Some.packet.now in
    let (divided, cut) = one_more_inside packets l.left.now c.in-Some.later.now packet l.inside i.divided i.counted c.in-Some.ensures.cases.0 in
    record {
      divided = divided;
      counted = omega (arith, i.counted, ap length c.in-Some.ensures.cases.0);
      sum = omega (arith, i.sum, ap (λ ps. length (concat (map vec_items ps))) cut, octets_more vec_items (take l.inside packets) packet, c.len.ensures, c.len-missing.ensures, c.if-missing-len.false);
      some = omega (arith, c.len.ensures, c.len-missing.ensures, c.if-missing-len.false);
    }
