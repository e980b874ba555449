-- FARM-1 of each virtual channel, CCSDS 232.1-B. The frames of all virtual channels are taken one
-- after another.
use Rattle.std.specs.Prelude.{◌≡◌, ℕ, ◌<◌, List, length}
use Rattle.std.specs.List.{slice_index_or}
use Rattle.sl_cop.specs.declared.verdict.Verdict.{Verdict}
use Rattle.sl_cop.specs.Farm.{FarmView, farm_start, farm_step}
use Rattle.sl_tcframe.specs.TcFrame.{TcView}
use Rattle.sl_tcflow.specs.AcceptedUnit.{views_on, event_of, farm_after}
use Rattle.sl_tcflow.specs.ReceptionParameters.{ReceptionParameters, initial_vr}

-- FARM-1 of a virtual channel before its first frame
abbrev pub farm_at_start : ReceptionParameters → ℕ → FarmView
farm_at_start r vc = record { window = r.window; state = farm_start (initial_vr r vc) }

-- FARM-1 of a virtual channel after its frames among these
abbrev pub farm_of : ReceptionParameters → ℕ → List TcView → FarmView
farm_of r vc views = record { window = r.window; state = farm_after r.window (initial_vr r vc) (views_on vc views) }

-- `farms` has FARM-1 of each of the 64 virtual channels, as it is after these frames. By `count`
-- there are 64, so `slice_index_or` never falls back on its last argument.
pub record HaveStepped (r : ReceptionParameters) (farms : List FarmView) (views : List TcView) : Type 0 where
  pub count : length farms ≡ 64
  pub each : (vc : ℕ) → vc < 64 → slice_index_or farms vc (farm_at_start r vc) ≡ farm_of r vc views

-- the verdict of FARM-1 on the next frame
abbrev pub verdict_on : ReceptionParameters → List TcView → TcView → Verdict
verdict_on r views next = (farm_step r.window (farm_of r next.vc views).state (event_of next.content)).0
