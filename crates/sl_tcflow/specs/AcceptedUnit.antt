-- The units (frame data units) that FARM-1 accepts on a virtual channel, CCSDS 232.0-B and 232.1-B.
-- Units of types AD and BD make one list, in the order of their acceptance: this
-- project's choice. In this file `w` is the width of the window, `vr` is the initial V(R) of a
-- virtual channel, and `vc_views` is the list of that virtual channel's frames.
use Rattle.std.specs.Prelude.{ℕ, ◌==◌, List, [], ◌∷◌, map}
use Rattle.std.specs.Result.{result_ok}
use Rattle.std.specs.List.{filter, filter_map}
use Rattle.sl_cop.specs.declared.farm_event.FarmEvent.{FarmEvent}
use Rattle.sl_cop.specs.declared.farm_event.FarmEvent.TheVariants as event
use Rattle.sl_cop.specs.declared.verdict.Verdict.{Verdict}
use Rattle.sl_cop.specs.Accepted.{if_accepted, accepted_by}
use Rattle.sl_cop.specs.Farm.{FarmState, farm_start, state_after, verdicts_of}
use Rattle.sl_tcframe.specs.TcFrame.{TcFormat, TcView, Content, Ad, Bd, Unlock, SetVr, tc_frame}

-- what is read of the frames, skipped frames left out
abbrev pub views_of : TcFormat → ℕ → List (List ℕ) → List TcView
views_of format spacecraft frames = filter_map (λ frame. result_ok (tc_frame format spacecraft frame)) frames

-- the frames of a virtual channel, in order
abbrev pub views_on : ℕ → List TcView → List TcView
views_on vc views = filter (λ view. view.vc == vc) views

-- the event of FARM-1 that stands for the arrival of a frame with this content
abbrev pub event_of : Content → FarmEvent
event_of (Ad ns unit) = event.Ad ns
event_of (Bd unit) = event.Bd
event_of Unlock = event.Unlock
event_of (SetVr vr) = event.SetVr vr

-- the events of FARM-1 on a virtual channel, one for each of its frames
abbrev pub events_of : List TcView → List FarmEvent
events_of vc_views = map (λ view. event_of view.content) vc_views

-- the state of FARM-1 after the frames of its virtual channel
abbrev pub farm_after : ℕ → ℕ → List TcView → FarmState
farm_after w vr vc_views = state_after w (farm_start vr) (events_of vc_views)

-- the unit of a frame of type AD or BD, as a list of one or none
abbrev pub unit_of : Content → List (List ℕ)
unit_of (Ad ns unit) = unit ∷ []
unit_of (Bd unit) = unit ∷ []
unit_of Unlock = []
unit_of (SetVr vr) = []

-- the unit of a frame of type AD alone, as a list of one or none
abbrev pub ad_unit_of : Content → List (List ℕ)
ad_unit_of (Ad ns unit) = unit ∷ []
ad_unit_of (Bd unit) = []
ad_unit_of Unlock = []
ad_unit_of (SetVr vr) = []

-- the unit of a frame, where this verdict accepts the frame, as a list of one or none
abbrev pub unit_by : Verdict → Content → List (List ℕ)
unit_by verdict content = if_accepted verdict (unit_of content)

-- the units of the frames that FARM-1 accepts, in the order of acceptance; `units` says which units
-- are wanted, as a list of one or none for each frame
abbrev pub accepted_of : (Content → List (List ℕ)) → ℕ → ℕ → List TcView → List (List ℕ)
accepted_of units w vr vc_views =
    accepted_by (λ (view : TcView). units view.content) (verdicts_of w (farm_start vr) (events_of vc_views)) vc_views

-- the units that FARM-1 accepts, of types AD and BD in one order: this project's choice
abbrev pub accepted_units : ℕ → ℕ → List TcView → List (List ℕ)
accepted_units w vr vc_views = accepted_of unit_of w vr vc_views

-- the accepted units of type AD alone
abbrev pub accepted_ad_units : ℕ → ℕ → List TcView → List (List ℕ)
accepted_ad_units w vr vc_views = accepted_of ad_unit_of w vr vc_views
