-- FARM-1 of the virtual channels, where one of them takes the next frame.
use Rattle.std.proofs.Common.{◌≡◌, ℕ, ◌<◌, Bool, List, [], ◌∷◌, ◌++◌, length, set, false, ◌∙◌, ap, ap₂, arith, append-nil}
use Rattle.std.specs.List.{slice_index_or}
use Rattle.std.proofs.lemmas.Bool.Decides.{eqb_tells}
use Rattle.std.proofs.lemmas.List.{get_or_default, get_or-set_same, get_or-set_other, length-set}
use Rattle.std.proofs.lemmas.List.Elements.{filter-append}
use Rattle.sl_cop.specs.declared.verdict.Verdict.{Verdict}
use Rattle.sl_cop.specs.Farm.{FarmView, farm_start, farm_step}
use Rattle.sl_cop.proofs.ReorderedLemmas.{state_more}
use Rattle.sl_tcframe.specs.TcFrame.{TcView}
use Rattle.sl_tcframe.specs.VcSet.{has_vc}
use Rattle.sl_tcflow.specs.AcceptedUnit.{event_of, farm_after}
use Rattle.sl_tcflow.specs.Farms.{HaveStepped, farm_of, verdict_on}
use Rattle.sl_tcflow.specs.Receiver.{ForIncomplete, ForProcessed, HasProcessed, ReceiverState}
use Rattle.sl_tcflow.specs.ReceptionParameters.{ReceptionParameters, is_plain}
use Rattle.sl_tcflow.specs.SeriesStore.{IncompleteSeries}

-- ---- FARM-1 of a channel

pub farm_after-push : (w vr : ℕ) (channel : List TcView) (next : TcView)
    → farm_after w vr (channel ++ next ∷ []) ≡ (farm_step w (farm_after w vr channel) (event_of next.content)).1
farm_after-push w vr channel next = state_more (λ (view : TcView). event_of view.content) w (farm_start vr) channel next

-- FARM-1 of a virtual channel after one more frame of this channel
pub farm_next : (r : ReceptionParameters) (views : List TcView) (next : TcView)
    → (farm_of r next.vc (views ++ next ∷ [])).state ≡ (farm_step r.window (farm_of r next.vc views).state (event_of next.content)).1
farm_next r views next = grind (arith, filter-append, eqb_tells, farm_after-push)

-- ---- all channels

-- FARM-1 of the first `n` virtual channels is in its first state
pub record AreSet (w : ℕ) (starts : List ℕ) (n : ℕ) (farms : List FarmView) : Type 0 where
  pub count : length farms ≡ 64
  pub each : (vc : ℕ) (d : FarmView) → vc < n → slice_index_or farms vc d ≡ record { window = w; state = farm_start (slice_index_or starts vc 0) }

same_farm : (a b : FarmView) → a.window ≡ b.window → a.state ≡ b.state → a ≡ b
same_farm a b window state = ap₂ (λ w s. record { window = w; state = s }) window state

module _ (r : ReceptionParameters) (farms : List FarmView) (views : List TcView) (next : TcView) (at : ℕ) (d farm : FarmView) where
  pub stepped_more : HaveStepped r farms views → next.vc < 64 → at ≡ next.vc
      → farm.window ≡ (slice_index_or farms at d).window
      → farm.state ≡ (farm_step (slice_index_or farms at d).window (slice_index_or farms at d).state (event_of next.content)).1
      → HaveStepped r (set farms at farm) (views ++ next ∷ [])
  stepped_more s fits same window state = grind (arith, get_or_default, same_farm, farm_next, length-set, eqb_tells, get_or-set_same, get_or-set_other, filter-append, append-nil)

pub processed_none : (r : ReceptionParameters) (farms : List FarmView) (incomplete : IncompleteSeries) → HaveStepped r farms [] → incomplete.list ≡ []
    → HasProcessed r (record { farms = farms; plain = r.plain; series = incomplete; has_failed = false }) []
processed_none r farms incomplete stepped none = grind arith

-- ---- the next frame

-- whether the next frame's virtual channel has no segment headers
pub plain_is : (r : ReceptionParameters) (inside state : ReceiverState) (vc : ℕ) → inside ≡ state → state.plain ≡ r.plain → has_vc inside.plain vc ≡ is_plain r vc
plain_is r inside state vc same is = ap (λ (s : ReceiverState). has_vc s.plain vc) same ∙ ap (λ vcs. has_vc vcs vc) is

-- a property of the frames that led to these series, with the verdict on the next frame, holds for the frames that
-- were processed
pub of_processed : (holds : ReceptionParameters → List TcView → Type 0) (inside state : ReceiverState) (plain : Bool) (verdict : Verdict) (next : TcView) → inside ≡ state
    → plain ≡ has_vc inside.plain next.vc
    → ((r : ReceptionParameters) (views : List TcView) → HaveStepped r inside.farms views → verdict ≡ verdict_on r views next)
    → ForIncomplete plain inside.series.list verdict next holds → ForProcessed state holds
of_processed holds inside state plain verdict next same headers verdict_is known r views processed = grind (arith, plain_is)
