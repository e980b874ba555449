-- Units that are sent on a virtual channel in frames of type AD, CCSDS 232.0-B and 232.1-B, with
-- N(S) counting from the initial V(R) on, modulo 256. Copies of the frames arrive in any order, and
-- may be lost or repeated. Frames of type BD and Unlock may come between them, and no Set V(R)
-- comes.
--
-- In this file `w` is the width of the window, `vr` the initial V(R), `sent` the sent units in the
-- order of sending, and `vc_views` the frames of the virtual channel in the order of arrival.
use Rattle.std.specs.Prelude.{◌≡◌, ◌≢◌, ℕ, ◌+◌, ◌<◌, ◌≤◌, false, List, [], ◌∷◌, ◌++◌, length, map}
use Rattle.std.specs.List.{AllByRecursion, AllZip, slice_index_or}
use mathlib.Core.List.{IsPrefix}
use Rattle.sl_cop.specs.declared.verdict.Verdict.TheVariants.{Accept}
use Rattle.sl_cop.specs.Farm.{FarmView, farm_step, negative_width, positive_width}
use Rattle.sl_cop.specs.FarmClcw.{clcw_of}
use Rattle.sl_cop.specs.Reordered.{Arrival, Copy, OfTypeBd, UnlockCommand, AreInWindow, AreNear, AtEachMoment, ns_of}
use Rattle.sl_packet.specs.Packets.{without_idle}
use Rattle.sl_tcframe.specs.TcFrame.{TcFormat, TcView, Ad, Bd, Unlock}
use Rattle.sl_tcflow.specs.AcceptedUnit.{accepted_ad_units, accepted_units, views_on, event_of, farm_after}
use Rattle.sl_tcflow.specs.Farms.{HaveStepped, farm_at_start}
use Rattle.sl_tcflow.specs.Reception.{packets_of_segments, segments_of}
use Rattle.sl_tcflow.specs.ReceptionParameters.{ReceptionParameters, is_plain, initial_vr}
use Rattle.sl_tcflow.specs.Recording.{channel_at, recorded_views, tc_lists}
use Rattle.sl_tcflow.specs.Series.{segment_in, segments_on}

-- the sent unit with this index, from 0 on
abbrev pub unit_at : List (List ℕ) → ℕ → List ℕ
unit_at sent index = slice_index_or sent index []

-- The frame is this arrival: a copy of the frame of type AD that carries the sent unit of this
-- index, a frame of type BD, or the control command Unlock.
abbrev pub IsArrival : ℕ → List (List ℕ) → TcView → Arrival → Type 0
IsArrival vr sent view (Copy index) = (index < length sent) × (view.content ≡ Ad (ns_of vr index) (unit_at sent index))
IsArrival vr sent view OfTypeBd = (unit : List ℕ) × (view.content ≡ Bd unit)
IsArrival vr sent view UnlockCommand = view.content ≡ Unlock

-- the frames of a virtual channel are these arrivals, one after another
abbrev pub AreArrivals : ℕ → List (List ℕ) → List TcView → List Arrival → Type 0
AreArrivals vr sent vc_views arrivals = AllZip (IsArrival vr sent) vc_views arrivals

-- no frame is of type BD
abbrev pub HaveNoBd : List TcView → Type 0
HaveNoBd vc_views = AllByRecursion (λ (view : TcView). (unit : List ℕ) → view.content ≢ Bd unit) vc_views

-- the number of accepted units of type AD, which is the index of the sent unit that is expected
-- next
abbrev pub accepted_ad_count : ℕ → ℕ → List TcView → ℕ
accepted_ad_count w vr vc_views = length (accepted_ad_units w vr vc_views)

-- the N(S) of the frame that is expected next, after these frames
abbrev pub expected_ns : ℕ → ℕ → List TcView → ℕ
expected_ns w vr vc_views = ns_of vr (accepted_ad_count w vr vc_views)

-- what is read of the frames of a recording on a virtual channel; skipped frames are on none
abbrev pub recorded_views_on : TcFormat → ℕ → ℕ → List ℕ → List TcView
recorded_views_on format spacecraft vc recording = views_on vc (recorded_views format spacecraft recording)

-- the packets that a recording delivers on a virtual channel and MAP, idle packets left out
abbrev pub recorded_packets : TcFormat → ℕ → ReceptionParameters → ℕ → ℕ → List ℕ → List (List ℕ)
recorded_packets format spacecraft r vc map_id recording =
    slice_index_or (tc_lists format spacecraft r recording) (channel_at vc map_id) []

-- the segments of a MAP, from the sent units
abbrev pub segments_sent : ReceptionParameters → ℕ → ℕ → List (List ℕ) → List (List ℕ)
segments_sent r vc map_id sent = segments_on map_id (map (segment_in (is_plain r vc)) sent)

-- The frames of a virtual channel are copies of the frames that were sent, and between them frames
-- of type BD and Unlock, but no Set V(R). Each copy, when it arrives, is less than 256 frames away
-- from the frame that is expected next.
pub record AreReordered (w vr : ℕ) (sent : List (List ℕ)) (vc_views : List TcView) (arrivals : List Arrival)
    : Type 0 where
  pub initial : vr < 256
  pub arrive : AreArrivals vr sent vc_views arrivals
  pub near : AreNear w vr arrivals

-- The same, where each copy is in the window when it arrives, and the window has at most 256
-- numbers.
pub record AreReorderedInWindow (w vr : ℕ) (sent : List (List ℕ)) (vc_views : List TcView) (arrivals : List Arrival)
    : Type 0 where
  pub initial : vr < 256
  pub most : positive_width w + negative_width w ≤ 256
  pub arrive : AreArrivals vr sent vc_views arrivals
  pub within : AreInWindow w vr arrivals

-- ---- laws

-- Where the window has at most 256 numbers, copies in the window are less than 256 frames away from
-- the expected frame.
abbrev pub WindowIsNear : Type 0
WindowIsNear =
    (w vr : ℕ) (sent : List (List ℕ)) (vc_views : List TcView) (arrivals : List Arrival)
    → AreReorderedInWindow w vr sent vc_views arrivals
    → AreReordered w vr sent vc_views arrivals

-- The accepted units of type AD are a prefix of the sent units, for every window.
abbrev pub UnitsInOrder : Type 0
UnitsInOrder =
    (w vr : ℕ) (sent : List (List ℕ)) (vc_views : List TcView) (arrivals : List Arrival)
    → AreReordered w vr sent vc_views arrivals
    → IsPrefix (accepted_ad_units w vr vc_views) sent

-- V(R) is at each moment the initial V(R) plus the number of accepted units of type AD, modulo 256.
abbrev pub VrCountsUnits : Type 0
VrCountsUnits =
    (w vr : ℕ) (sent : List (List ℕ)) (vc_views : List TcView) (arrivals : List Arrival)
    → AreReordered w vr sent vc_views arrivals
    → AtEachMoment vc_views (λ before. (farm_after w vr before).vr ≡ expected_ns w vr before)

-- The accepted units of type AD are all accepted units, where no frame is of type BD.
abbrev pub AdUnitsAreAll : Type 0
AdUnitsAreAll =
    (w vr : ℕ) (vc_views : List TcView) → HaveNoBd vc_views
    → accepted_ad_units w vr vc_views ≡ accepted_units w vr vc_views

-- The packets of each MAP are a prefix of the packets of the sent units, where no frame is of type
-- BD.
abbrev pub PacketsInOrder : Type 0
PacketsInOrder =
    (r : ReceptionParameters) (vc map_id : ℕ) (sent : List (List ℕ)) (views : List TcView) (arrivals : List Arrival)
    → AreReordered r.window (initial_vr r vc) sent (views_on vc views) arrivals
    → HaveNoBd (views_on vc views)
    → IsPrefix (packets_of_segments (segments_of r vc map_id views))
    (packets_of_segments (segments_sent r vc map_id sent))

-- The packets that a recording delivers on a virtual channel and MAP are a prefix of the packets of
-- the sent units, idle packets left out on both sides, where no frame of that virtual channel is of
-- type BD. Nothing is said of the other virtual channels.
abbrev pub RecordedPacketsInOrder : Type 0
RecordedPacketsInOrder =
    (format : TcFormat) (spacecraft : ℕ) (r : ReceptionParameters) (vc map_id : ℕ) (sent : List (List ℕ))
    (recording : List ℕ) (arrivals : List Arrival) → vc < 64 → map_id < 64
    → AreReordered r.window (initial_vr r vc) sent (recorded_views_on format spacecraft vc recording) arrivals
    → HaveNoBd (recorded_views_on format spacecraft vc recording)
    → IsPrefix (recorded_packets format spacecraft r vc map_id recording)
    (without_idle (packets_of_segments (segments_sent r vc map_id sent)))

-- Where each copy is in the window, the Lockout flag is never set.
abbrev pub WindowNeverLocks : Type 0
WindowNeverLocks =
    (w vr : ℕ) (sent : List (List ℕ)) (vc_views : List TcView) (arrivals : List Arrival)
    → AreReorderedInWindow w vr sent vc_views arrivals
    → AtEachMoment vc_views (λ before. (farm_after w vr before).lockout ≡ false)

-- Where each copy is in the window, each copy of the expected frame is accepted.
abbrev pub ExpectedUnitIsAccepted : Type 0
ExpectedUnitIsAccepted =
    (w vr : ℕ) (sent : List (List ℕ)) (vc_views : List TcView) (arrivals : List Arrival)
    → AreReorderedInWindow w vr sent vc_views arrivals
    → (before after : List TcView) (view : TcView) → vc_views ≡ before ++ view ∷ after
    → view.content ≡ Ad (expected_ns w vr before) (unit_at sent (accepted_ad_count w vr before))
    → (farm_step w (farm_after w vr before) (event_of view.content)).0 ≡ Accept

-- The CLCW of a receiver reports as V(R) the initial V(R) plus the number of accepted units of type
-- AD, modulo 256, also where the receiver has failed. `farms` are the receiver's FARM-1s after
-- these frames.
abbrev pub ReceiverCountsUnits : Type 0
ReceiverCountsUnits =
    (r : ReceptionParameters) (vc : ℕ) (sent : List (List ℕ)) (farms : List FarmView) (views : List TcView)
    (arrivals : List Arrival) → vc < 64
    → HaveStepped r farms views → AreReordered r.window (initial_vr r vc) sent (views_on vc views) arrivals
    → (clcw_of vc (slice_index_or farms vc (farm_at_start r vc)).state).report
    ≡ expected_ns r.window (initial_vr r vc) (views_on vc views)
