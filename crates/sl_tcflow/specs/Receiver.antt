-- The state of a receiver that was given frames of all virtual channels, CCSDS 232.0-B and 232.1-B,
-- and what the next frame does.
use Rattle.std.specs.Prelude.{◌≡◌, ◌≢◌, ◌⊎◌, ℕ, ◌/◌, ◌%◌, ◌<◌, ◌==◌, Bool, true, false, if◌then◌else◌, List, [], ◌∷◌, ◌++◌, map, flat_map, Option, None, Some}
use Rattle.std.specs.List.{slice_index_or}
use Rattle.sl_cop.specs.declared.verdict.Verdict.{Verdict}
use Rattle.sl_cop.specs.Farm.{FarmView}
use Rattle.sl_packet.specs.Packets.{without_idle}
use Rattle.sl_tcframe.specs.TcFrame.{TcView, Content, Ad, Bd, Unlock, SetVr}
use Rattle.sl_tcflow.specs.AcceptedUnit.{unit_by}
use Rattle.sl_tcflow.specs.Farms.{HaveStepped, verdict_on}
use Rattle.sl_tcflow.specs.Incomplete.{incomplete_of}
use Rattle.sl_tcflow.specs.Reception.{packets_ended, segments_of}
use Rattle.sl_tcflow.specs.ReceptionParameters.{ReceptionParameters, is_plain}
use Rattle.sl_tcflow.specs.Recording.{channel_at, packets_of_channel}
use Rattle.sl_tcflow.specs.Series.{header_at, segment_in}
use Rattle.sl_tcflow.specs.SeriesStore.{IncompleteSeries}

-- The state of a receiver: FARM-1 of each virtual channel; the virtual channels without segment
-- headers; the series that are incomplete; and whether a fault came.
pub record ReceiverState : Type 0 where
  pub farms : List FarmView
  pub plain : List ℕ
  pub series : IncompleteSeries
  pub has_failed : Bool

-- these are the octets so far of the series that are incomplete after these frames, by channel
abbrev pub AreIncomplete : ReceptionParameters → List (Option (List ℕ)) → List TcView → Type 0
AreIncomplete r incomplete views =
    (vc map_id : ℕ) → vc < 64 → map_id < 64
    → slice_index_or incomplete (channel_at vc map_id) None ≡ incomplete_of (segments_of r vc map_id views)

-- The octets so far of an incomplete series, none where there is no such series. Only contracts of
-- private functions of `sl_engine` stand on this and on `incomplete_octets_on`.
abbrev pub octets_of_series : Option (List ℕ) → List ℕ
octets_of_series None = []
octets_of_series (Some octets) = octets

-- the octets so far of the series that is incomplete on a channel
abbrev pub incomplete_octets_on : ReceptionParameters → List TcView → ℕ → List ℕ
incomplete_octets_on r views channel =
    octets_of_series (incomplete_of (segments_of r (channel / 64) (channel % 64) views))

-- These frames were processed, and no fault came. Other lists of frames may lead to the same state.
pub record HasProcessed (r : ReceptionParameters) (state : ReceiverState) (views : List TcView) : Type 0 where
  pub working : state.has_failed ≡ false
  pub plain : state.plain ≡ r.plain
  pub farms : HaveStepped r state.farms views
  pub series : AreIncomplete r state.series.list views

-- A fault came, and FARM-1 of each virtual channel is the one after these frames.
pub record HasFailedAfter (r : ReceptionParameters) (state : ReceiverState) (views : List TcView) : Type 0 where
  pub failed : state.has_failed ≡ true
  pub farms : HaveStepped r state.farms views

-- a fault came
abbrev pub IsFailed : ReceiverState → Type 0
IsFailed state = state.has_failed ≡ true

-- the property holds for all parameters and lists of frames that may have led to this state, where
-- no fault came
abbrev pub ForProcessed : ReceiverState → (ReceptionParameters → List TcView → Type 0) → Type 0
ForProcessed state holds = (r : ReceptionParameters) (views : List TcView) → HasProcessed r state views → holds r views

-- ---- what the next frame does

-- the MAP of the unit in this content, on a virtual channel without segment headers (`plain`) or
-- with them; 0 where there is no unit
abbrev pub map_of : Bool → Content → ℕ
map_of plain (Ad ns unit) = (header_at (segment_in plain unit)).map
map_of plain (Bd unit) = (header_at (segment_in plain unit)).map
map_of plain Unlock = 0
map_of plain (SetVr vr) = 0

-- the MAP of the next frame's unit
abbrev pub unit_map : ReceptionParameters → TcView → ℕ
unit_map r next = map_of (is_plain r next.vc) next.content

-- the channel of the next frame's unit
abbrev pub unit_channel : ReceptionParameters → TcView → ℕ
unit_channel r next = channel_at next.vc (unit_map r next)

-- the segment of the next frame's unit, if the unit is accepted, as a list of one or none
abbrev pub segment_by : ReceptionParameters → List TcView → TcView → List (List ℕ)
segment_by r views next = map (segment_in (is_plain r next.vc)) (unit_by (verdict_on r views next) next.content)

-- the packets of the series that the next frame's unit completes, if the unit is accepted, idle
-- packets included
abbrev pub ended_by : ReceptionParameters → List TcView → TcView → List (List ℕ)
ended_by r views next =
    flat_map (packets_ended (segments_of r next.vc (unit_map r next) views)) (segment_by r views next)

-- The private function `take_unit` knows three values alone: `plain`, whether the next frame's
-- virtual channel has no segment headers; `incomplete`, the series that are incomplete before that
-- frame; and `verdict`, that of FARM-1 on it. The property holds for all parameters `r` and all
-- earlier frames `views` that lead to these three values.
abbrev pub ForIncomplete :
    Bool → List (Option (List ℕ)) → Verdict → TcView → (ReceptionParameters → List TcView → Type 0) → Type 0
ForIncomplete plain incomplete verdict next holds =
    (r : ReceptionParameters) (views : List TcView) → plain ≡ is_plain r next.vc → AreIncomplete r incomplete views
    → verdict ≡ verdict_on r views next → holds r views

-- the next frame's unit is accepted, and on its MAP a series is incomplete before the next frame or
-- after it
abbrev pub IsIncompleteAround : ReceptionParameters → List TcView → TcView → Type 0
IsIncompleteAround r views next =
    (segment_by r views next ≢ [])
    × ((incomplete_of (segments_of r next.vc (unit_map r next) views) ≢ None)
    ⊎ (incomplete_of (segments_of r next.vc (unit_map r next) (views ++ next ∷ [])) ≢ None))

-- ---- all frames

-- the packets that a receiver hands over for a channel, where `views` were given to it before,
-- `later` are given one after another now, and each call answers `Ok`
abbrev pub handed_over : ReceptionParameters → ℕ → List TcView → List TcView → List (List ℕ)
handed_over r channel views [] = []
handed_over r channel views (next ∷ later) =
    (if unit_channel r next == channel then without_idle (ended_by r views next) else [])
    ++ handed_over r channel (views ++ next ∷ []) later

-- What a receiver hands over for a channel from the first frame on are the packets of the channel,
-- idle packets left out.
abbrev pub DeliveredAreHandedOver : Type 0
DeliveredAreHandedOver =
    (r : ReceptionParameters) (channel : ℕ) (views : List TcView)
    → handed_over r channel [] views ≡ without_idle (packets_of_channel r views channel)
