use Rattle.std.proofs.Common.{◌∙◌, ap, arith, refl, subst, sym}
use Rattle.sl_tcflow.specs.Anomaly.{IsReportOnFrame}
use Rattle.sl_tcflow.specs.StepReport.{StepReport}
use Rattle.sl_tcflow.proofs.lemmas.Anomaly.Report.{reported_none}
use Rattle.sl_tcflow.proofs.lemmas.Counter.{begun_read, counted_same, counts_none, counts_read, packets_read, report_read}
use Rattle.sl_tcflow.proofs.lemmas.Reception.Unit.{map_read_is, none_read, some_read}
use Rattle.sl_tcflow.proofs.unit_counter.count_unit.Goals as goal

pub returns-in-None-clause-counts : goal.returns-in-None-clause-counts
returns-in-None-clause-counts c r views headers counted is =
    counted_same r c.args.series.now views c.args.frame.now counted
    (none_read r views c.args.frame.now c.args.plain c.args.verdict _ headers is c.carried_segment-segment.ensures (sym c.accepted_segment.ensures ∙ c.in-None.is))

pub returns-in-None-clause-step : goal.returns-in-None-clause-step
returns-in-None-clause-step c r views headers counted is =
    reported_none r views c.args.frame.now c.args.verdict c.map_in-map.result is
    (c.map_in-map.ensures.value ∙ map_read_is r views c.args.frame.now c.args.plain c.args.verdict _ headers c.carried_segment-segment.ensures)
    (none_read r views c.args.frame.now c.args.plain c.args.verdict _ headers is c.carried_segment-segment.ensures (sym c.accepted_segment.ensures ∙ c.in-None.is))

pub returns-in-None-clause-packets : goal.returns-in-None-clause-packets
returns-in-None-clause-packets c r views headers counted is =
    counts_none r views c.args.frame.now _
    (none_read r views c.args.frame.now c.args.plain c.args.verdict _ headers is c.carried_segment-segment.ensures (sym c.accepted_segment.ensures ∙ c.in-None.is))
    refl refl

pub returns-in-Ok-clause-counts : goal.returns-in-Ok-clause-counts
returns-in-Ok-clause-counts c r views headers counted is =
    let read = some_read r views c.args.frame.now c.args.plain c.args.verdict _ c.in-Some.segment headers is c.carried_segment-segment.ensures (sym c.accepted_segment.ensures ∙ c.in-Some.is) in
    counts_read r c.args.series.now views c.args.frame.now c.in-Some.segment read counted (omega (arith, c.requires)) c.take_segment.new.self c.in-Ok.ensures.counts

pub returns-in-Ok-clause-step : goal.returns-in-Ok-clause-step
returns-in-Ok-clause-step c r views headers counted is =
    let read = some_read r views c.args.frame.now c.args.plain c.args.verdict _ c.in-Some.segment headers is c.carried_segment-segment.ensures (sym c.accepted_segment.ensures ∙ c.in-Some.is) in
    subst (λ (step : StepReport). IsReportOnFrame r views c.args.frame.now (record step { map = c.map_in-map.result })) (sym c.step.view_is)
    (report_read r c.args.series.now views c.args.frame.now c.in-Some.segment read counted (omega (arith, c.requires)) c.in-Ok.step c.map_in-map.result
    (c.map_in-map.ensures.value ∙ map_read_is r views c.args.frame.now c.args.plain c.args.verdict _ headers c.carried_segment-segment.ensures) c.in-Ok.ensures.step)

pub returns-in-Ok-clause-packets : goal.returns-in-Ok-clause-packets
returns-in-Ok-clause-packets c r views headers counted is =
    let read = some_read r views c.args.frame.now c.args.plain c.args.verdict _ c.in-Some.segment headers is c.carried_segment-segment.ensures (sym c.accepted_segment.ensures ∙ c.in-Some.is) in
    let reported = packets_read r c.args.series.now views c.args.frame.now c.in-Some.segment read counted (omega (arith, c.requires)) c.in-Ok.step c.in-Ok.ensures.packets in
    record {
      packets = ap (λ (s : StepReport). s.packets) c.step.view_is ∙ reported.packets;
      idle = ap (λ (s : StepReport). s.idle) c.step.view_is ∙ reported.idle;
    }

pub returns-in-Err-clause-memory : goal.returns-in-Err-clause-memory
returns-in-Err-clause-memory c r views headers counted is =
    let read = some_read r views c.args.frame.now c.args.plain c.args.verdict _ c.in-Some.segment headers is c.carried_segment-segment.ensures (sym c.accepted_segment.ensures ∙ c.in-Some.is) in
    begun_read r c.args.series.now views c.args.frame.now c.in-Some.segment read counted (omega (arith, c.requires)) c.in-Err.ensures.memory
