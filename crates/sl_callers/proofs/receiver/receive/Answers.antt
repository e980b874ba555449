use Rattle.std.proofs.Common.{◌≡◌, ◌≢◌, ◌+◌, ◌∷◌, ◌∙◌, arith, ap, drop, false, sym, true, Err}
use Rattle.std.proofs.lemmas.List.{drop_all, drop_more}
use Rattle.sl_packet.specs.declared.flow_fault.FlowFault.TheVariants.{Failed, Sink}
use Rattle.sl_packet.specs.declared.sink.SinkFault.TheVariants as sink
use Rattle.sl_engine.proofs.lemmas.Link.Answers.{passed_up}
use Rattle.sl_callers.proofs.Handing.{all_handed, hands_next, holds_next, none_handed, parameters, stopped_for_memory, stopped_with_packet, tc_hands_over, unit_channel_inside}
use Rattle.sl_callers.proofs.receiver.receive.Goals as goal

pub loop-frame-init : goal.loop-frame-init
loop-frame-init c = none_handed _ _ _ _ c.args.frames.now c.new-receiver.result c.new-delivered.result.lists c.new-receiver.ensures.processed c.new-delivered.ensures.lists

pub loop-frame-preserved : goal.loop-frame-preserved
loop-frame-preserved c =
    let r = parameters c.args.window c.args.starts.now c.args.plain in
    let frames = c.args.frames.now in
    let at = c.loop-frame.frame-index in
    let view = c.frame-item.result in
    let is = drop_more frames at view (omega (arith, c.loop-frame-test.true)) ∙ ap (λ v. v ∷ drop (at + 1) frames) (sym c.frame-item.is) in
    hands_next _ _ _ _ (tc_hands_over r) frames (drop at frames) (drop (at + 1) frames) view c.loop-frame.receiver c.frame.new.self c.loop-frame.delivered c.frame.new.sink is
    (unit_channel_inside r view (omega (arith, c.vc.ensures.value, c.vc.ensures.fits))) (c.in_ok-frame.ensures.processed r) (c.in_ok-frame.ensures.accepted r) c.loop-frame.invariant

pub returns-clause-lists : goal.returns-clause-lists
returns-clause-lists c channel =
    let r = parameters c.args.window c.args.starts.now c.args.plain in
    let frames = c.args.frames.now in
    let at = c.loop-frame.frame-index in
    all_handed _ _ _ _ (tc_hands_over r) frames (drop at frames) c.loop-frame.receiver c.loop-frame.delivered.lists (drop_all at frames (omega (arith, c.loop-frame-test.false)))
    c.loop-frame.invariant channel
    ∙ c.tc_packets_are_handed_over.ensures r channel frames

pub returns-in_err-frame-clause-fault : goal.returns-in_err-frame-clause-fault
returns-in_err-frame-clause-fault c =
    let r = parameters c.args.window c.args.starts.now c.args.plain in
    let h = c.loop-frame.invariant in
    let fault = c.in_err-frame.field-0.0 in
    let working : fault ≢ Failed = λ is. let bad : false ≡ true = sym h.processed.working ∙ (c.in_err-frame.ensures.left (ap Err is)).0 in cc in
    passed_up c.from_residual.result _ c.from_residual.ensures.1 (stopped_for_memory _ _ _ _ fault ((c.in_err-frame.ensures.stopped working).1 r h.seen h.processed).1)

pub returns-in_err-frame-clause-memory : goal.returns-in_err-frame-clause-memory
returns-in_err-frame-clause-memory c =
    let r = parameters c.args.window c.args.starts.now c.args.plain in
    let h = c.loop-frame.invariant in
    let frames = c.args.frames.now in
    let at = c.loop-frame.frame-index in
    let view = c.frame-item.result in
    let is = drop_more frames at view (omega (arith, c.loop-frame-test.true)) ∙ ap (λ v. v ∷ drop (at + 1) frames) (sym c.frame-item.is) in
    passed_up c.from_residual.result _ c.from_residual.ensures.1
    (λ memory. holds_next _ _ _ _ frames (drop at frames) (drop (at + 1) frames) view c.loop-frame.receiver c.loop-frame.delivered.lists is h (c.in_err-frame.ensures.memory memory r h.seen h.processed))

pub returns-in_err-frame-clause-store : goal.returns-in_err-frame-clause-store
returns-in_err-frame-clause-store c =
    let r = parameters c.args.window c.args.starts.now c.args.plain in
    let h = c.loop-frame.invariant in
    let frames = c.args.frames.now in
    let at = c.loop-frame.frame-index in
    let view = c.frame-item.result in
    let fault = c.in_err-frame.field-0.0 in
    let is = drop_more frames at view (omega (arith, c.loop-frame-test.true)) ∙ ap (λ v. v ∷ drop (at + 1) frames) (sym c.frame-item.is) in
    passed_up c.from_residual.result _ c.from_residual.ensures.1
    (λ refused. holds_next _ _ _ _ frames (drop at frames) (drop (at + 1) frames) view c.loop-frame.receiver c.loop-frame.delivered.lists is h
    (stopped_with_packet _ _ _ _ fault refused ((c.in_err-frame.ensures.stopped (λ is. let bad : Sink sink.Memory ≡ Failed = sym refused ∙ is in cc)).1 r h.seen h.processed).1))
