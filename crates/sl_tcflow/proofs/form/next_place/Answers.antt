use Rattle.std.proofs.Common.{◌≤◌, true, false, length, ap, arith, eq-eqb, ne_eqb, ◌∙◌, sym}
use Rattle.std.proofs.lemmas.List.{length-map}
use Rattle.std.specs.Vec.{vec_items}
use Rattle.sl_packet.specs.Delivered.{list_at}
use Rattle.sl_tcflow.specs.Form.{form_left}
use Rattle.sl_tcflow.proofs.lemmas.Form.Left.{to_none, to_packet}
use Rattle.sl_tcflow.proofs.form.next_place.Goals as goal

pub returns-in-None-clause-left : goal.returns-in-None-clause-left
returns-in-None-clause-left c = λ format spacecraft plain.
    let d = c.args.delivered.now in
    let all : length (list_at d c.args.from.channel) ≤ c.args.from.framed = omega (arith, ap length c.list.ensures.packets, length-map c.list.result.now vec_items, c.if-from-list.false) in
    to_none format spacecraft c.args.starts.now plain d.lists c.args.from.channel c.args.from.framed c.args.from.ns c.args.from.ns c.requires.channel c.list.ensures.channels all c.in-None.ensures.none

pub returns-then-goes_on-clause-left : goal.returns-then-goes_on-clause-left
returns-then-goes_on-clause-left c = λ format spacecraft plain.
    let d = c.args.delivered.now in
    let next = c.in-Some.ensures.some in
    let all : length (list_at d c.args.from.channel) ≤ c.args.from.framed = omega (arith, ap length c.list.ensures.packets, length-map c.list.result.now vec_items, c.if-from-list.false) in
    to_packet format spacecraft c.args.starts.now plain d.lists c.args.from.channel c.in-Some.channel c.args.from.framed c.args.from.ns true (eq-eqb _ _ c.if-goes_on.true)
    (omega (arith, next.after)) (omega (arith, next.inside)) c.list.ensures.channels all next.least

pub returns-else-goes_on-clause-left : goal.returns-else-goes_on-clause-left
returns-else-goes_on-clause-left c = λ format spacecraft plain.
    let d = c.args.delivered.now in
    let next = c.in-Some.ensures.some in
    let all : length (list_at d c.args.from.channel) ≤ c.args.from.framed = omega (arith, ap length c.list.ensures.packets, length-map c.list.result.now vec_items, c.if-from-list.false) in
    to_packet format spacecraft c.args.starts.now plain d.lists c.args.from.channel c.in-Some.channel c.args.from.framed c.args.from.ns false (ne_eqb _ _ c.if-goes_on.false)
    (omega (arith, next.after)) (omega (arith, next.inside)) c.list.ensures.channels all next.least
    ∙ ap (form_left format spacecraft c.args.starts.now plain d.lists c.in-Some.channel 0) (sym c.start.ensures.value)
