use Rattle.std.proofs.Common.{◌∙◌, inr, ap, sym, subst, arith}
use Rattle.sl_packet.proofs.StoppingLemmas.{counts_stopped, hands_same}
use Rattle.sl_tcflow.specs.Anomaly.{IsReportOnFrame}
use Rattle.sl_tcflow.specs.StepReport.{StepReport}
use Rattle.sl_tcflow.proofs.lemmas.Anomaly.Report.{reported_read, reported_none}
use Rattle.sl_tcflow.proofs.lemmas.Reception.Unit.{around_read, channel_read, ended_read, incomplete_read, incomplete_same, map_read_is, none_read, some_read}
use Rattle.sl_tcflow.proofs.receiver.take_unit.Goals as goal

pub returns-in-None-clause-series : goal.returns-in-None-clause-series
returns-in-None-clause-series g c r views headers are is =
    incomplete_same r c.args.series.now.list views c.args.frame.now are
    (none_read r views c.args.frame.now c.args.plain c.args.verdict _ headers is c.carried_segment-segment.ensures (sym c.accepted_segment.ensures ∙ c.in-None.is))

pub returns-in-None-clause-step : goal.returns-in-None-clause-step
returns-in-None-clause-step g c r views headers are is =
    reported_none r views c.args.frame.now c.args.verdict c.map_in-map.result is
    (c.map_in-map.ensures.value ∙ map_read_is r views c.args.frame.now c.args.plain c.args.verdict _ headers c.carried_segment-segment.ensures)
    (none_read r views c.args.frame.now c.args.plain c.args.verdict _ headers is c.carried_segment-segment.ensures (sym c.accepted_segment.ensures ∙ c.in-None.is))

pub returns-in-Ok-clause-series : goal.returns-in-Ok-clause-series
returns-in-Ok-clause-series g c r views headers are is =
    let read = some_read r views c.args.frame.now c.args.plain c.args.verdict _ c.in-Some.segment headers is c.carried_segment-segment.ensures (sym c.accepted_segment.ensures ∙ c.in-Some.is) in
    incomplete_read r c.args.series.now.list views c.args.frame.now c.in-Some.segment read c.take_segment.new.self.list are (omega (arith, c.requires)) c.in-Ok.ensures.placed

pub returns-in-Ok-clause-step : goal.returns-in-Ok-clause-step
returns-in-Ok-clause-step g c r views headers are is =
    let read = some_read r views c.args.frame.now c.args.plain c.args.verdict _ c.in-Some.segment headers is c.carried_segment-segment.ensures (sym c.accepted_segment.ensures ∙ c.in-Some.is) in
    subst (λ (step : StepReport). IsReportOnFrame r views c.args.frame.now (record step { map = c.map_in-map.result })) (sym c.step.view_is)
    (reported_read r c.args.series.now.list views c.args.frame.now c.in-Some.segment c.in-Ok.step c.map_in-map.result read are (omega (arith, c.requires))
    (c.map_in-map.ensures.value ∙ map_read_is r views c.args.frame.now c.args.plain c.args.verdict _ headers c.carried_segment-segment.ensures) c.in-Ok.ensures.step)

pub returns-in-Ok-clause-hands_over : goal.returns-in-Ok-clause-hands_over
returns-in-Ok-clause-hands_over g c r views headers are is =
    let read = some_read r views c.args.frame.now c.args.plain c.args.verdict _ c.in-Some.segment headers is c.carried_segment-segment.ensures (sym c.accepted_segment.ensures ∙ c.in-Some.is) in
    let handed = hands_same (channel_read r c.args.series.now.list views c.args.frame.now c.in-Some.segment read) (sym (ended_read r c.args.series.now.list views c.args.frame.now c.in-Some.segment read are (omega (arith, c.requires)))) c.in-Ok.ensures.hands_over in
    record {
      accepted = handed.accepted;
      kept = handed.kept;
      packets = ap (λ (s : StepReport). s.packets) c.step.view_is ∙ handed.packets;
      idle = ap (λ (s : StepReport). s.idle) c.step.view_is ∙ handed.idle;
      stopped = tt;
    }

pub returns-in-Err-clause-hands_over : goal.returns-in-Err-clause-hands_over
returns-in-Err-clause-hands_over g c r views headers are is =
    let read = some_read r views c.args.frame.now c.args.plain c.args.verdict _ c.in-Some.segment headers is c.carried_segment-segment.ensures (sym c.accepted_segment.ensures ∙ c.in-Some.is) in
    hands_same (channel_read r c.args.series.now.list views c.args.frame.now c.in-Some.segment read) (sym (ended_read r c.args.series.now.list views c.args.frame.now c.in-Some.segment read are (omega (arith, c.requires)))) c.in-Err.ensures.hands_over

pub returns-in-Err-clause-counted : goal.returns-in-Err-clause-counted
returns-in-Err-clause-counted g c =
    counts_stopped g.S.PacketSink.taking g.S.PacketSink.failing g.S.PacketSink.failures c.args.sink.now _ _ c.in-Err.flow c.take_segment.new.sink c.in-Err.ensures.hands_over.stopped

pub returns-in-Err-clause-memory : goal.returns-in-Err-clause-memory
returns-in-Err-clause-memory g c e r views headers are is =
    let read = some_read r views c.args.frame.now c.args.plain c.args.verdict _ c.in-Some.segment headers is c.carried_segment-segment.ensures (sym c.accepted_segment.ensures ∙ c.in-Some.is) in
    around_read r c.args.series.now.list views c.args.frame.now c.in-Some.segment read are (omega (arith, c.requires)) (c.in-Err.ensures.memory e)

pub returns-in-Ok-clause-capacity : goal.returns-in-Ok-clause-capacity
returns-in-Ok-clause-capacity g c changed r views headers are is =
    let read = some_read r views c.args.frame.now c.args.plain c.args.verdict _ c.in-Some.segment headers is c.carried_segment-segment.ensures (sym c.accepted_segment.ensures ∙ c.in-Some.is) in
    around_read r c.args.series.now.list views c.args.frame.now c.in-Some.segment read are (omega (arith, c.requires)) (inr (c.in-Ok.ensures.capacity changed))

pub returns-in-Err-clause-capacity : goal.returns-in-Err-clause-capacity
returns-in-Err-clause-capacity g c changed r views headers are is =
    let read = some_read r views c.args.frame.now c.args.plain c.args.verdict _ c.in-Some.segment headers is c.carried_segment-segment.ensures (sym c.accepted_segment.ensures ∙ c.in-Some.is) in
    around_read r c.args.series.now.list views c.args.frame.now c.in-Some.segment read are (omega (arith, c.requires)) (inr (c.in-Err.ensures.capacity changed))
