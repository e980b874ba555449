use Rattle.std.proofs.Common.{length, map, ap, arith, length-append}
use Rattle.std.specs.List.{concat}
use Rattle.std.specs.Vec.{vec_items}
use Rattle.sl_packet.proofs.StoppingLemmas.{on_err}
use Rattle.sl_tmflow.proofs.form.push_all.Goals as goal

pub returns-in_err-extend_from_slice-clause-full : goal.returns-in_err-extend_from_slice-clause-full
returns-in_err-extend_from_slice-clause-full c =
    let l = c.loop-packet in
    let i = l.invariant in
    let packet = vec_items c.in-Some.packet.now in
    on_err c.from_residual.result _
    (omega (
      arith,
      c.in_err-extend_from_slice.ensures.full,
      ap length c.as_slice.ensures.value,
      i.capacity,
      ap length i.all,
      length-append l.out.items (concat (map vec_items l.left.now)),
      length-append c.args.out.now.items (concat (map vec_items c.args.packets.now)),
      ap (λ ps. length (concat (map vec_items ps))) c.in-Some.ensures.cases.0,
      length-append packet (concat (map vec_items c.in-Some.later.now)),
    ))
