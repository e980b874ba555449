use Rattle.std.proofs.Common.{◌≡◌, ◌-◌, ◌==◌, ◌++◌, ◌∙◌, min, vec_len, arith, refl, sym, ap, length, take, drop, ◌+◌, ◌/◌, ◌%◌}
use Rattle.std.proofs.lemmas.Bool.{eqb-true, eqb-false}
use Rattle.std.proofs.lemmas.List.{length-drop, length-take, take_at}
use Rattle.sl_fields.specs.FecfField.{fecf_len}
use Rattle.sl_fields.proofs.FecfLemmas.{fecf_len_le}
use Rattle.sl_tcframe.specs.AdFrame.{segment_room_of, ad_frame, segment_unit}
use Rattle.sl_tcflow.proofs.lemmas.Form.Pushed.{none_divided, divided_next, all_divided, none_few, few_next, few_fit}
use Rattle.sl_packet.proofs.StoppingLemmas.{on_err}
use Rattle.sl_tcflow.proofs.frames.push_packet.Goals as goal

pub loop-left-init : goal.loop-left-init
loop-left-init c = (
  none_divided c.args.shape.now c.args.heading.spacecraft (c.args.heading.channel / 64) (c.args.heading.channel % 64) c.args.form.now.items c.args.heading.ns (segment_room_of c.args.shape.now) c.args.packet.now (omega arith),
  none_few (vec_len c.args.form.now) (length c.args.packet.now),
  omega arith,
)

pub loop-left-smaller : goal.loop-left-smaller
loop-left-smaller c =
    let left = eqb-false _ _ (sym c.is_empty.ensures ∙ c.loop-left-test.true) in
    let later : length c.split_segment.result.1.now ≡ length c.loop-left.left.now - c.from-room.result = ap length c.split_segment.ensures.later ∙ length-drop c.from-room.result c.loop-left.left.now in
    omega (arith, left, later, c.from-room.ensures, c.room.ensures.least)

pub loop-left-preserved : goal.loop-left-preserved
loop-left-preserved c =
    let room = c.from-room.ensures ∙ c.room.ensures.value in
    let left = eqb-false _ _ (sym c.is_empty.ensures ∙ c.loop-left-test.true) in
    let taken : length c.split_segment.result.0.now ≡ min c.from-room.result (length c.loop-left.left.now) = ap length c.split_segment.ensures.octets ∙ length-take c.from-room.result c.loop-left.left.now in
    let later : length c.split_segment.result.1.now ≡ length c.loop-left.left.now - c.from-room.result = ap length c.split_segment.ensures.later ∙ length-drop c.from-room.result c.loop-left.left.now in (
      divided_next c.args.shape.now c.args.heading.spacecraft (c.args.heading.channel / 64) (c.args.heading.channel % 64) c.args.form.now.items c.args.heading.ns (segment_room_of c.args.shape.now) c.args.packet.now
          c.loop-left.left.now c.split_segment.result.0.now c.split_segment.result.1.now (length c.loop-left.left.now == length c.args.packet.now) c.is_empty-in-loop-left.result
          c.loop-left.ns ((c.loop-left.ns + 1) % 256) c.loop-left.form.items c.push_tc.new.out.items
          (omega (arith, room, c.room.ensures.least, c.from-room.ensures)) (omega (arith, left)) (c.loop-left.auto.ns-fits).fits
          (c.split_segment.ensures.octets ∙ ap (λ n. take n c.loop-left.left.now) room) (c.split_segment.ensures.later ∙ ap (λ n. drop n c.loop-left.left.now) room)
          refl c.is_empty-in-loop-left.ensures c.loop-left.invariant.0
          (c.in_ok-push_tc.ensures.added ∙ ap (λ h. c.loop-left.form.items ++ ad_frame c.args.shape.now c.args.heading.spacecraft (c.args.heading.channel / 64) c.loop-left.ns (segment_unit h c.split_segment.result.0.now)) c.of_segment-header.ensures)
          refl,
      few_next (vec_len c.args.form.now) (length c.args.packet.now) (vec_len c.loop-left.form) (vec_len c.push_tc.new.out) (length c.loop-left.left.now) (length c.split_segment.result.1.now)
          (length c.split_segment.result.0.now) (6 + fecf_len c.args.shape.now.fecf) c.from-room.result
          (omega (arith, c.from-room.ensures, c.room.ensures.least)) (omega (arith, fecf_len_le c.args.shape.now.fecf)) (omega (arith, left)) taken later
          (let len = c.in_ok-push_tc.ensures.len in omega (arith, len)) c.loop-left.invariant.1,
      (let grown = c.push_tc.ensures.capacity in let before = c.loop-left.invariant.2 in omega (arith, grown, before)),
    )

pub returns-in_err-push_tc-clause-kept : goal.returns-in_err-push_tc-clause-kept
returns-in_err-push_tc-clause-kept c =
    let base = c.args.form.now in
    let same : length base.items ≡ vec_len base = omega arith in
    on_err c.from_residual.result _
    (ap (take (vec_len base)) (c.in_err-push_tc.ensures.unchanged ∙ c.loop-left.invariant.0.pushed.form_is) ∙ take_at base.items _ (vec_len base) same)

pub returns-in_err-push_tc-clause-full : goal.returns-in_err-push_tc-clause-full
returns-in_err-push_tc-clause-full c =
    let left = eqb-false _ _ (sym c.is_empty.ensures ∙ c.loop-left-test.true) in
    let taken : length c.split_segment.result.0.now ≡ min c.from-room.result (length c.loop-left.left.now) = ap length c.split_segment.ensures.octets ∙ length-take c.from-room.result c.loop-left.left.now in
    let fit = few_fit (vec_len c.args.form.now) (length c.args.packet.now) (vec_len c.loop-left.form) (length c.loop-left.left.now)
    (length c.split_segment.result.0.now) (6 + fecf_len c.args.shape.now.fecf) c.from-room.result
    (omega (arith, fecf_len_le c.args.shape.now.fecf)) (omega (arith, left)) taken c.loop-left.invariant.1 in
    let full = c.in_err-push_tc.ensures.full in
    let before = c.loop-left.invariant.2 in
    on_err c.from_residual.result _ (omega (arith, fit, full, before))

pub returns-clause-frames : goal.returns-clause-frames
returns-clause-frames c =
    (all_divided c.args.shape.now c.args.heading.spacecraft (c.args.heading.channel / 64) (c.args.heading.channel % 64) c.args.form.now.items c.args.heading.ns (segment_room_of c.args.shape.now) c.args.packet.now c.loop-left.left.now c.loop-left.ns c.loop-left.form.items
    (omega (arith, c.from-room.ensures ∙ c.room.ensures.value, c.room.ensures.least, c.from-room.ensures)) (eqb-true _ _ (sym c.is_empty.ensures ∙ c.loop-left-test.false)) c.loop-left.invariant.0).form_is

pub returns-clause-next : goal.returns-clause-next
returns-clause-next c =
    (all_divided c.args.shape.now c.args.heading.spacecraft (c.args.heading.channel / 64) (c.args.heading.channel % 64) c.args.form.now.items c.args.heading.ns (segment_room_of c.args.shape.now) c.args.packet.now c.loop-left.left.now c.loop-left.ns c.loop-left.form.items
    (omega (arith, c.from-room.ensures ∙ c.room.ensures.value, c.room.ensures.least, c.from-room.ensures)) (eqb-true _ _ (sym c.is_empty.ensures ∙ c.loop-left-test.false)) c.loop-left.invariant.0).next_is
