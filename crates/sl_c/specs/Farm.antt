-- FARM-1 on one virtual channel, as C keeps it, and the numbers by which C names events and verdicts.
use Rattle.std.specs.Prelude.{◌≡◌, ℕ, ◌<◌, ◌≤◌, ◌==◌, if◌then◌else◌, Option, None, Some}
use Rattle.sl_cop.specs.declared.farm_event.FarmEvent.{FarmEvent}
use Rattle.sl_cop.specs.declared.farm_event.FarmEvent.TheVariants.{Ad, Bd, Unlock, SetVr}
use Rattle.sl_cop.specs.declared.verdict.Verdict.{Verdict}
use Rattle.sl_cop.specs.declared.verdict.Verdict.TheVariants.{Accept, Early, Late, Outside, Refused, Command}
use Rattle.sl_cop.specs.Farm.{FarmState, IsWidth}
use Rattle.sl_c.specs.declared.answer.Answer.{Answer}
use Rattle.sl_c.specs.declared.answer.Answer.TheVariants.{Window, Counter}
use Rattle.sl_c.specs.declared.farm.FarmFields.{FarmFields}

-- the state of a FARM-1 that C keeps
abbrev pub state_of : FarmFields → FarmState
state_of f = record { vr = f.vr; lockout = f.lockout; retransmit = f.retransmit; farm_b = f.farm_b }

-- what C keeps is a FARM-1: its window is even and not 0, and its FARM-B counter is 3 at most
pub record IsKeptFarm (f : FarmFields) : Type 0 where
  pub window : IsWidth f.window
  pub counter : f.farm_b ≤ 3

-- what C keeps is no FARM-1, for the first of these reasons that holds
pub record IsNoFarm (f : FarmFields) (answer : Answer) : Type 0 where
  pub window : (IsWidth f.window → ⊥) → answer ≡ Window
  pub counter : IsWidth f.window → (3 < f.farm_b) × (answer ≡ Counter)

-- the event with this number, none where there is no such event: a frame of type AD with its N(S),
-- a frame of type BD, Unlock, or Set V(R) with its value
abbrev pub numbered_event : ℕ → ℕ → Option FarmEvent
numbered_event event number =
    if event == 0 then Some (Ad number)
    else if event == 1 then Some Bd
    else if event == 2 then Some Unlock
    else if event == 3 then Some (SetVr number)
    else None

-- the number of a verdict
abbrev pub number_of_verdict : Verdict → ℕ
number_of_verdict Accept = 0
number_of_verdict Early = 1
number_of_verdict Late = 2
number_of_verdict Outside = 3
number_of_verdict Refused = 4
number_of_verdict Command = 5
