-- The report on the next frame, from the series that is incomplete at the index of its unit.
use Rattle.std.proofs.Common.{arith, ◌≡◌, ℕ, ◌<◌, false, List, [], ◌∷◌, Option, None, refl, sym, ◌∙◌}
use Rattle.sl_cop.specs.declared.verdict.Verdict.{Verdict}
use Rattle.sl_cop.specs.declared.verdict.Verdict.TheVariants.{Accept}
use Rattle.sl_tcframe.specs.TcFrame.{TcView}
use Rattle.sl_tcflow.specs.Anomaly.{IsReportOnFrame, dropped_of, long_of, stray_of, tail_of}
use Rattle.sl_tcflow.specs.Farms.{verdict_on}
use Rattle.sl_tcflow.specs.IncompleteSteps.{IsReportOnSegment, dropped_with, long_with, empty_report, stray_with, tail_after}
use Rattle.sl_tcflow.specs.Receiver.{AreIncomplete, unit_map, segment_by}
use Rattle.sl_tcflow.specs.ReceptionParameters.{ReceptionParameters}
use Rattle.sl_tcflow.specs.Recording.{channel_at}
use Rattle.sl_tcflow.specs.Segment.{SegmentView}
use Rattle.sl_tcflow.specs.Series.{flags_of, header_at, segment_data}
use Rattle.sl_tcflow.specs.SeriesStore.{at}
use Rattle.sl_tcflow.specs.StepReport.{StepReport}
use Rattle.sl_tcflow.proofs.lemmas.Anomaly.Told.{told_at, told_none}
use Rattle.sl_tcflow.proofs.lemmas.Reception.Ended.{tail_next}
use Rattle.sl_tcflow.proofs.lemmas.Reception.Unit.{IsReadNext}

-- the report on a frame whose unit is accepted
pub reported_more : (r : ReceptionParameters) (old : List (Option (List ℕ))) (views : List TcView) (next : TcView) (unit : List ℕ) (step : StepReport) (map_id : ℕ)
    → AreIncomplete r old views → next.vc < 64 → segment_by r views next ≡ unit ∷ []
    → unit_map r next ≡ (header_at unit).map → verdict_on r views next ≡ Accept → map_id ≡ unit_map r next
    → IsReportOnSegment (at old (channel_at next.vc (header_at unit).map)) (flags_of unit) (segment_data unit) step
    → IsReportOnFrame r views next (record step { map = map_id })
reported_more r old views next unit step map_id are inside unit_is map_id_is accepted map_is reported =
    record {
      verdict = reported.verdict ∙ sym accepted;
      map = map_is;
      stray = told_at r old views next unit false stray_of (λ held segment. stray_with held (flags_of segment)) (λ list segment. refl) next.vc step.stray are inside unit_is map_id_is refl reported.stray;
      dropped = told_at r old views next unit None dropped_of (λ held segment. dropped_with held (flags_of segment)) (λ list segment. refl) next.vc step.dropped are inside unit_is map_id_is refl reported.dropped;
      long = told_at r old views next unit false long_of (λ held segment. long_with held (flags_of segment) (segment_data segment)) (λ list segment. refl) next.vc step.long are inside unit_is map_id_is refl reported.long;
      tail = told_at r old views next unit 0 tail_of tail_after tail_next next.vc step.tail are inside unit_is map_id_is refl reported.tail;
    }

-- the same, from what is read of the unit
pub reported_read : (r : ReceptionParameters) (old : List (Option (List ℕ))) (views : List TcView) (next : TcView) (read : SegmentView) (step : StepReport) (map_id : ℕ)
    → IsReadNext r views next read → AreIncomplete r old views → next.vc < 64 → map_id ≡ unit_map r next
    → IsReportOnSegment (at old read.channel) read.flags read.octets step → IsReportOnFrame r views next (record step { map = map_id })
reported_read r old views next read step map_id is are inside map_is reported =
    reported_more r old views next is.segment step map_id are inside is.accepted is.map_id is.verdict map_is (rw (is.view) at reported)

-- the report on a frame without an accepted unit
pub reported_none : (r : ReceptionParameters) (views : List TcView) (next : TcView) (verdict : Verdict) (map_id : ℕ) → verdict ≡ verdict_on r views next
    → map_id ≡ unit_map r next → segment_by r views next ≡ [] → IsReportOnFrame r views next (record empty_report { verdict = verdict; map = map_id })
reported_none r views next verdict map_id is map_is none = grind (arith, told_none)
