use Rattle.std.proofs.Common.{◌++◌, ◌≤◌, length, refl, sym, ◌∙◌, ap, length-append, arith}
use Rattle.std.proofs.lemmas.List.{length-map}
use Rattle.std.specs.Vec.{vec_items}
use Rattle.sl_packet.specs.Delivered.{list_at}
use Rattle.sl_tcframe.specs.VcSet.{has_vc}
use Rattle.sl_tcflow.specs.Form.{ns_after, piece_of}
use Rattle.sl_tcflow.proofs.lemmas.Form.Left.{fits_in_frame, is_channel, no_packet, none_left, packet_first}
use Rattle.sl_packet.proofs.StoppingLemmas.{on_err}
use Rattle.sl_tcflow.proofs.form.TcForm.next.Goals as goal

pub returns-in-None-clause-end : goal.returns-in-None-clause-end
returns-in-None-clause-end c = λ none.
    let f = c.self.inside in
    let past : length (list_at f.delivered.now f.place.channel) ≤ f.place.framed = omega (arith, c.in-None.ensures.none, length-map f.packets.now vec_items, ap length c.self.invariant.packets) in
    let last = no_packet f.delivered.now f.place.channel f.place.framed c.self.invariant.place past in
    let all = sym c.self.view_is ∙ none_left f.shape f.spacecraft f.starts f.plain f.delivered.now.lists f.place.channel f.place.framed f.place.ns last c.self.invariant.channels in
    (all, all, refl)

pub push_piece-requires-clause-short : goal.push_piece-requires-clause-short
push_piece-requires-clause-short c = λ plain.
    let f = c.self.inside in
    let i = c.self.invariant in
    let found = c.in-Some.ensures in
    let vc = c.has-plain.ensures.value ∙ ap (has_vc f.plain) (omega (arith, is_channel f i found.inside)) in
    fits_in_frame f i found.inside c.in-Some.packet.now (sym vc ∙ plain) found.some

pub returns-in_err-ns-clause-pieces : goal.returns-in_err-ns-clause-pieces
returns-in_err-ns-clause-pieces c =
    let f = c.self.inside in
    let i = c.self.invariant in
    let found = c.in-Some.ensures in
    let packet = c.in-Some.packet.now in
    let vc = c.has-plain.ensures.value ∙ ap (has_vc f.plain) (omega (arith, is_channel f i found.inside)) in
    let front = packet_first f i found.inside c.has-plain.result (ns_after f.shape c.has-plain.result f.place.channel f.place.ns packet) packet vc found.some refl in
    let some = c.push_piece.ensures.some in
    on_err c.from_residual.result _ (λ none. absurd (omega (arith, some, simp length-append at (ap length (sym front ∙ c.self.view_is ∙ none)))))

pub returns-then-framed-self-clause-piece : goal.returns-then-framed-self-clause-piece
returns-then-framed-self-clause-piece c = λ some.
    let f = c.self.inside in
    let i = c.self.invariant in
    let found = c.in-Some.ensures in
    let packet = c.in-Some.packet.now in
    let vc = c.has-plain.ensures.value ∙ ap (has_vc f.plain) (omega (arith, is_channel f i found.inside)) in
    let piece = piece_of f.shape f.spacecraft c.has-plain.result f.place.channel f.place.ns packet in
    let added = c.in_ok-ns.ensures.frames in
    let most = c.in_ok-ns.ensures.most in
    record {
      piece = piece;
      some = c.push_piece.ensures.some;
      most = omega (arith, most, ap length added, length-append c.args.form.now.items piece);
      front = sym c.self.view_is ∙ packet_first f i found.inside c.has-plain.result c.in_ok-ns.ns packet vc found.some c.in_ok-ns.ensures.next;
      added = added;
    }

pub returns-clause-piece : goal.returns-clause-piece
returns-clause-piece c = λ some.
    let f = c.self.inside in
    let i = c.self.invariant in
    let found = c.in-Some.ensures in
    let packet = c.in-Some.packet.now in
    let vc = c.has-plain.ensures.value ∙ ap (has_vc f.plain) (omega (arith, is_channel f i found.inside)) in
    let piece = piece_of f.shape f.spacecraft c.has-plain.result f.place.channel f.place.ns packet in
    let added = c.in_ok-ns.ensures.frames in
    let most = c.in_ok-ns.ensures.most in
    record {
      piece = piece;
      some = c.push_piece.ensures.some;
      most = omega (arith, most, ap length added, length-append c.args.form.now.items piece);
      front = sym c.self.view_is
          ∙ packet_first f i found.inside c.has-plain.result c.in_ok-ns.ns packet vc found.some c.in_ok-ns.ensures.next
          ∙ ap (λ l. piece ++ l) (c.next_place-place.ensures.left f.shape f.spacecraft f.plain);
      added = added;
    }
