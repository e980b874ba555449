-- The state of a counter that was given frames of all virtual channels, CCSDS 232.0-B and 232.1-B. It
-- counts the packets that a receiver hands over, and keeps no octet but those of a packet's header.
use Rattle.std.specs.Prelude.{◌≡◌, ◌≢◌, ℕ, ◌<◌, Bool, List, [], ◌∷◌, ◌++◌, Option, None}
use Rattle.sl_cop.specs.declared.verdict.Verdict.{Verdict}
use Rattle.sl_cop.specs.Farm.{FarmView}
use Rattle.sl_tcframe.specs.TcFrame.{TcView}
use Rattle.sl_tcflow.specs.CountStore.{count_at}
use Rattle.sl_tcflow.specs.Farms.{HaveStepped, verdict_on}
use Rattle.sl_tcflow.specs.Incomplete.{incomplete_of}
use Rattle.sl_tcflow.specs.Receiver.{segment_by, unit_map}
use Rattle.sl_tcflow.specs.Reception.{segments_of}
use Rattle.sl_tcflow.specs.ReceptionParameters.{ReceptionParameters, is_plain}
use Rattle.sl_tcflow.specs.Recording.{channel_at}
use Rattle.sl_tcflow.specs.UnitCount.{CountsSeries}
use Rattle.sl_tcflow.specs.declared.unit_count.UnitCount.{UnitCount}

-- The state of a counter: FARM-1 of each virtual channel; the virtual channels without segment
-- headers; and for each channel the count of its incomplete series, if there is one.
pub record CounterState : Type 0 where
  pub farms : List FarmView
  pub plain : List ℕ
  pub counts : List (Option UnitCount)

-- these are the counts of the series that are incomplete after these frames, by channel
abbrev pub AreCounted : ReceptionParameters → List (Option UnitCount) → List TcView → Type 0
AreCounted r counts views =
    (vc map_id : ℕ) → vc < 64 → map_id < 64
    → CountsSeries (incomplete_of (segments_of r vc map_id views)) (count_at counts (channel_at vc map_id))

-- These frames were processed. Other lists of frames may lead to the same state.
pub record HasCounted (r : ReceptionParameters) (state : CounterState) (views : List TcView) : Type 0 where
  pub plain : state.plain ≡ r.plain
  pub farms : HaveStepped r state.farms views
  pub counts : AreCounted r state.counts views

-- FARM-1 of each virtual channel has taken these frames and then another one, for whose unit no memory
-- was there: the counts are those after the frames before it.
pub record HasRefused (r : ReceptionParameters) (state : CounterState) (views : List TcView) (next : TcView) : Type 0 where
  pub plain : state.plain ≡ r.plain
  pub farms : HaveStepped r state.farms (views ++ next ∷ [])
  pub counts : AreCounted r state.counts views

-- the next frame's unit is accepted, and on its MAP a series is incomplete after that frame
abbrev pub IsIncompleteAfter : ReceptionParameters → List TcView → TcView → Type 0
IsIncompleteAfter r views next =
    (segment_by r views next ≢ []) × (incomplete_of (segments_of r next.vc (unit_map r next) (views ++ next ∷ [])) ≢ None)

-- the property holds for all parameters and lists of frames that may have led to this state
abbrev pub ForCounted : CounterState → (ReceptionParameters → List TcView → Type 0) → Type 0
ForCounted state holds = (r : ReceptionParameters) (views : List TcView) → HasCounted r state views → holds r views

-- The private function `count_unit` knows three values alone: `plain`, whether the next frame's
-- virtual channel has no segment headers; `counts`, those of the series that are incomplete before
-- that frame; and `verdict`, that of FARM-1 on it. The property holds for all parameters `r` and all
-- earlier frames `views` that lead to these three values.
abbrev pub ForCounts :
    Bool → List (Option UnitCount) → Verdict → TcView → (ReceptionParameters → List TcView → Type 0) → Type 0
ForCounts plain counts verdict next holds =
    (r : ReceptionParameters) (views : List TcView) → plain ≡ is_plain r next.vc → AreCounted r counts views
    → verdict ≡ verdict_on r views next → holds r views
