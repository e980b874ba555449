-- The counts of the series that are incomplete, one frame after another.
use Rattle.std.proofs.Common.{◌≡◌, ◌≢◌, ℕ, ◌/◌, ◌%◌, ◌<◌, Bool, List, [], ◌∷◌, ◌++◌, map, set, length, Option, None, Some, inl, inr, refl, sym, subst, ap, ap₂, arith, ◌∙◌}
use Rattle.std.specs.List.{range_with_len}
use Rattle.std.proofs.lemmas.Bool.{cases_eq}
use Rattle.std.proofs.lemmas.List.{get_or-set_other, get_or-set_same}
use Rattle.std.proofs.lemmas.List.FromFn.{get_or-map-range_with_len, length-map-range_with_len}
use Rattle.sl_packet.specs.Delivered.{channel_count}
use Rattle.sl_cop.specs.declared.verdict.Verdict.{Verdict}
use Rattle.sl_tcframe.specs.TcFrame.{TcView}
use Rattle.sl_tcframe.specs.VcSet.{has_vc}
use Rattle.sl_tcflow.specs.Anomaly.{IsReportOnFrame}
use Rattle.sl_tcflow.specs.CountStore.{CountsEach, count_at}
use Rattle.sl_tcflow.specs.Farms.{HaveStepped, verdict_on}
use Rattle.sl_tcflow.specs.Incomplete.{incomplete_of}
use Rattle.sl_tcflow.specs.IncompleteSteps.{IsReportOnSegment, incomplete_with, packets_with}
use Rattle.sl_tcflow.specs.Receiver.{AreIncomplete, ended_by, segment_by, unit_map}
use Rattle.sl_tcflow.specs.Reception.{segments_of}
use Rattle.sl_tcflow.specs.ReceptionParameters.{ReceptionParameters}
use Rattle.sl_tcflow.specs.Recording.{channel_at}
use Rattle.sl_tcflow.specs.Segment.{SegmentView}
use Rattle.sl_tcflow.specs.SeriesStore.{IsPlaced, at}
use Rattle.sl_tcflow.specs.StepReport.{StepReport}
use Rattle.sl_tcflow.specs.UnitCount.{CountsSeries, ForSeriesOf, ReportsPackets}
use Rattle.sl_tcflow.specs.UnitCounter.{AreCounted, CounterState, ForCounted, ForCounts, IsIncompleteAfter}
use Rattle.sl_tcflow.specs.declared.unit_count.UnitCount.{UnitCount}
use Rattle.sl_tcflow.proofs.lemmas.Anomaly.Report.{reported_read}
use Rattle.sl_tcflow.proofs.lemmas.Reception.Unit.{IsReadNext, after_read, channel_read, ended_none, ended_read, incomplete_read, incomplete_same, map_fits}

-- ---- one series

pub none_open : (before : Option (List ℕ)) (count : Option UnitCount) → CountsSeries before count → count ≡ None → before ≡ None
none_open None None is same = refl
none_open None (Some count) is same = refl
none_open (Some octets) None is same = absurd is
none_open (Some octets) (Some count) is same = absurd (cc)

pub none_kept : (before : Option (List ℕ)) (count : Option UnitCount) → CountsSeries before count → before ≡ None → count ≡ None
none_kept None None is same = refl
none_kept None (Some count) is same = absurd is
none_kept (Some octets) None is same = refl
none_kept (Some octets) (Some count) is same = absurd (cc)

-- ---- all series, as a list

-- the octets so far of the series that are incomplete after these frames, on the first `n` channels
abbrev series_to : ℕ → ReceptionParameters → List TcView → List (Option (List ℕ))
series_to n r views = map (λ channel. incomplete_of (segments_of r (channel / 64) (channel % 64) views)) (range_with_len 0 n)

placed : (list : List (Option (List ℕ))) (channel : ℕ) (value : Option (List ℕ)) → channel < length list → IsPlaced list channel value (set list channel value)
placed list channel value below = record {
  here = get_or-set_same list channel value None below;
  others = λ other apart. get_or-set_other list channel other value None apart;
}

-- series with these counts are counted
counted_back : (r : ReceptionParameters) (list : List (Option (List ℕ))) (counts : List (Option UnitCount)) (views : List TcView) → AreIncomplete r list views → CountsEach list counts
    → AreCounted r counts views
counted_back r list counts views are each vc map_id vc_fits map_id_fits =
    subst (λ series. CountsSeries series (count_at counts (channel_at vc map_id))) (are vc map_id vc_fits map_id_fits) (each (channel_at vc map_id) (omega arith))

module _ (n : ℕ) (all : n ≡ channel_count) (r : ReceptionParameters) (views : List TcView) where
  series_at : (channel : ℕ) → channel < channel_count → at (series_to n r views) channel ≡ incomplete_of (segments_of r (channel / 64) (channel % 64) views)
  series_at channel below =
      get_or-map-range_with_len (λ channel. incomplete_of (segments_of r (channel / 64) (channel % 64) views)) 0 n channel channel None (omega arith) (omega arith)

  are_listed : AreIncomplete r (series_to n r views) views
  are_listed vc map_id vc_fits map_id_fits =
      let high : channel_at vc map_id / 64 ≡ vc = omega arith in
      let low : channel_at vc map_id % 64 ≡ map_id = omega arith in
      series_at (channel_at vc map_id) (omega arith) ∙ ap₂ (λ v m. incomplete_of (segments_of r v m views)) high low

  counted_each : (counts : List (Option UnitCount)) → AreCounted r counts views → CountsEach (series_to n r views) counts
  counted_each counts counted channel below =
      let same : channel_at (channel / 64) (channel % 64) ≡ channel = omega arith in
      subst (λ series. CountsSeries series (count_at counts channel)) (sym (series_at channel below))
      (subst (λ i. CountsSeries (incomplete_of (segments_of r (channel / 64) (channel % 64) views)) (count_at counts i)) same (counted (channel / 64) (channel % 64) (omega arith) (omega arith)))

-- ---- one series more

-- the counts of a list that may have grown, with the count of one channel's series
pub counted_set : (counts grown : List (Option UnitCount)) (channel : ℕ) (series : Option UnitCount) (old new : List (Option (List ℕ))) (value : Option (List ℕ))
    → ((other : ℕ) → count_at grown other ≡ count_at counts other) → channel < length grown → CountsSeries value series
    → CountsEach old counts → IsPlaced old channel value new → CountsEach new (set grown channel series)
counted_set counts grown channel series old new value same below counted each placed other inside =
    elim (cases_eq other channel) [
      | inl at_channel ↦
          subst (λ other. CountsSeries (at new other) (count_at (set grown channel series) other)) (sym at_channel)
          (rw (placed.here, get_or-set_same grown channel series None below) counted)
      | inr apart ↦ rw (placed.others other apart, get_or-set_other grown channel other series None apart, same other) (each other inside)
    ]

-- ---- no frame yet

pub counted_new : (r : ReceptionParameters) (counts : List (Option UnitCount)) → counts ≡ [] → AreCounted r counts []
counted_new r counts none vc map_id vc_fits map_id_fits =
    subst (λ counts. CountsSeries None (count_at counts (channel_at vc map_id))) (sym none) tt

-- ---- the next frame, where the state is known

-- a property of the frames that led to these counts, with the verdict on the next frame, holds for the frames that were
-- processed
pub of_counted : (holds : ReceptionParameters → List TcView → Type 0) (inside state : CounterState) (plain : Bool) (verdict : Verdict) (next : TcView) → inside ≡ state
    → plain ≡ has_vc inside.plain next.vc
    → ((r : ReceptionParameters) (views : List TcView) → HaveStepped r inside.farms views → verdict ≡ verdict_on r views next)
    → ForCounts plain inside.counts verdict next holds → ForCounted state holds
of_counted holds inside state plain verdict next same headers verdict_is known r views processed =
    known r views (headers ∙ ap (λ (s : CounterState). has_vc s.plain next.vc) same ∙ ap (λ vcs. has_vc vcs next.vc) processed.plain)
    (subst (λ (s : CounterState). AreCounted r s.counts views) (sym same) processed.counts)
    (verdict_is r views (subst (λ (s : CounterState). HaveStepped r s.farms views) (sym same) processed.farms))

-- ---- one frame more

unit_inside : (r : ReceptionParameters) (old : List (Option (List ℕ))) (views : List TcView) (next : TcView) (read : SegmentView) → IsReadNext r views next read → next.vc < 64 → read.channel < channel_count
unit_inside r old views next read is inside =
    omega (arith, channel_read r old views next read is, is.map_id, map_fits is.segment)

-- without an accepted unit all counts stay
none_after : (n : ℕ) → n ≡ channel_count → (r : ReceptionParameters) (counts : List (Option UnitCount)) (views : List TcView) (next : TcView) → AreCounted r counts views → segment_by r views next ≡ []
    → AreCounted r counts (views ++ next ∷ [])
none_after n all r counts views next counted none =
    let list = series_to n r views in
    counted_back r list counts (views ++ next ∷ []) (incomplete_same r list views next (are_listed n all r views) none) (counted_each n all r views counts counted)

pub counted_same : (r : ReceptionParameters) (counts : List (Option UnitCount)) (views : List TcView) (next : TcView) → AreCounted r counts views → segment_by r views next ≡ []
    → AreCounted r counts (views ++ next ∷ [])
counted_same = none_after channel_count refl

pub counts_none : (r : ReceptionParameters) (views : List TcView) (next : TcView) (step : StepReport) → segment_by r views next ≡ [] → step.packets ≡ 0 → step.idle ≡ 0
    → ReportsPackets (ended_by r views next) step
counts_none r views next step none packets idle =
    subst (λ ended. ReportsPackets ended step) (sym (ended_none r views next none)) (record { packets = packets; idle = idle })

-- with an accepted unit, the counts of its channel change, and the report is that of its segment
module _ (n : ℕ) (all : n ≡ channel_count) (r : ReceptionParameters) (counts : List (Option UnitCount)) (views : List TcView) (next : TcView) (read : SegmentView) (is : IsReadNext r views next read)
    (counted : AreCounted r counts views) (inside : next.vc < 64) where
  counts_after : (new : List (Option UnitCount))
      → ((old after : List (Option (List ℕ))) → CountsEach old counts → IsPlaced old read.channel (incomplete_with (at old read.channel) read.flags read.octets) after → CountsEach after new)
      → AreCounted r new (views ++ next ∷ [])
  counts_after new step =
      let old = series_to n r views in
      let below = unit_inside r old views next read is inside in
      let long : length old ≡ n = length-map-range_with_len (λ channel. incomplete_of (segments_of r (channel / 64) (channel % 64) views)) 0 n in
      let value = incomplete_with (at old read.channel) read.flags read.octets in
      let put = placed old read.channel value (omega (arith, below, long)) in
      counted_back r (set old read.channel value) new (views ++ next ∷ [])
      (incomplete_read r old views next read is (set old read.channel value) (are_listed n all r views) inside put)
      (step old (set old read.channel value) (counted_each n all r views counts counted) put)

  report_after : (step : StepReport) (map_id : ℕ) → map_id ≡ unit_map r next
      → ForSeriesOf (count_at counts read.channel) (λ before. IsReportOnSegment before read.flags read.octets step)
      → IsReportOnFrame r views next (record step { map = map_id })
  report_after step map_id map_is reported =
      let old = series_to n r views in
      reported_read r old views next read step map_id is (are_listed n all r views) inside map_is
      (reported (at old read.channel) (counted_each n all r views counts counted read.channel (unit_inside r old views next read is inside)))

  packets_after : (step : StepReport) → ForSeriesOf (count_at counts read.channel) (λ before. ReportsPackets (packets_with before read.flags read.octets) step)
      → ReportsPackets (ended_by r views next) step
  packets_after step reported =
      let old = series_to n r views in
      subst (λ ended. ReportsPackets ended step) (sym (ended_read r old views next read is (are_listed n all r views) inside))
      (reported (at old read.channel) (counted_each n all r views counts counted read.channel (unit_inside r old views next read is inside)))

  after_begun : ((before : Option (List ℕ)) → incomplete_with before read.flags read.octets ≢ None) → IsIncompleteAfter r views next
  after_begun begun =
      let old = series_to n r views in
      after_read r old views next read is (are_listed n all r views) inside (begun (at old read.channel))

pub counts_read : (r : ReceptionParameters) (counts : List (Option UnitCount)) (views : List TcView) (next : TcView) (read : SegmentView) → IsReadNext r views next read → AreCounted r counts views → next.vc < 64
    → (new : List (Option UnitCount))
    → ((old after : List (Option (List ℕ))) → CountsEach old counts → IsPlaced old read.channel (incomplete_with (at old read.channel) read.flags read.octets) after → CountsEach after new)
    → AreCounted r new (views ++ next ∷ [])
counts_read = counts_after channel_count refl

pub report_read : (r : ReceptionParameters) (counts : List (Option UnitCount)) (views : List TcView) (next : TcView) (read : SegmentView) → IsReadNext r views next read → AreCounted r counts views → next.vc < 64
    → (step : StepReport) (map_id : ℕ) → map_id ≡ unit_map r next
    → ForSeriesOf (count_at counts read.channel) (λ before. IsReportOnSegment before read.flags read.octets step)
    → IsReportOnFrame r views next (record step { map = map_id })
report_read = report_after channel_count refl

pub packets_read : (r : ReceptionParameters) (counts : List (Option UnitCount)) (views : List TcView) (next : TcView) (read : SegmentView) → IsReadNext r views next read → AreCounted r counts views → next.vc < 64
    → (step : StepReport) → ForSeriesOf (count_at counts read.channel) (λ before. ReportsPackets (packets_with before read.flags read.octets) step)
    → ReportsPackets (ended_by r views next) step
packets_read = packets_after channel_count refl

pub begun_read : (r : ReceptionParameters) (counts : List (Option UnitCount)) (views : List TcView) (next : TcView) (read : SegmentView) → IsReadNext r views next read → AreCounted r counts views → next.vc < 64
    → ((before : Option (List ℕ)) → incomplete_with before read.flags read.octets ≢ None) → IsIncompleteAfter r views next
begun_read = after_begun channel_count refl
