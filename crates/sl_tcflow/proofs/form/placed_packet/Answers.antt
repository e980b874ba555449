use Rattle.std.proofs.Common.{◌≡◌, ◌<◌, [], length, map, sym, ◌∙◌, ap, subst, arith}
use Rattle.std.proofs.lemmas.List.{get_or-map, length-map}
use Rattle.std.specs.List.{slice_index_or}
use Rattle.std.specs.Vec.{vec_items}
use Rattle.sl_packet.specs.Delivered.{IsDeliverable}
use Rattle.std.proofs.lemmas.List.Elements.{All-from_recursion}
use Rattle.sl_tcflow.proofs.form.placed_packet.Goals as goal

pub returns-clause-deliverable : goal.returns-clause-deliverable
returns-clause-deliverable c = λ each.
    let packets = c.args.packets.now in
    let framed = c.args.framed in
    let found = c.in_ok-packet.ensures.lookup in
    let here = map vec_items packets in
    let inside : framed < length here = omega (arith, found.3.0, length-map packets vec_items) in
    let is : c.as_slice.result.now ≡ slice_index_or here framed [] =
    c.as_slice.ensures.value ∙ ap vec_items found.1 ∙ sym (get_or-map vec_items packets framed c.in_ok-packet.packet.now [] found.3.0) in
    subst IsDeliverable (sym is) (All-from_recursion IsDeliverable here each framed [] inside)
