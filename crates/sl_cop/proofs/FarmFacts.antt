-- Known steps, runs and words. A wrong definition would fail these facts.
use Rattle.std.proofs.Common.{◌≡◌, ℕ, Bool, true, false, List, [], ◌∷◌, ◌++◌, refl}
use Rattle.sl_fields.specs.Clcw.{clcw_word}
use Rattle.sl_cop.specs.declared.farm_event.FarmEvent.{FarmEvent}
use Rattle.sl_cop.specs.declared.farm_event.FarmEvent.TheVariants.{Ad, Bd, Unlock, SetVr}
use Rattle.sl_cop.specs.declared.verdict.Verdict.{Verdict}
use Rattle.sl_cop.specs.declared.verdict.Verdict.TheVariants.{Accept, Early, Late, Outside, Refused, Command}
use Rattle.sl_cop.specs.Farm.{FarmState, farm_start, farm_step, distance, verdicts_of, state_after}
use Rattle.sl_cop.specs.FarmClcw.{clcw_of}

-- the verdict in the first state, with this width of the window and this V(R), on a frame of type
-- AD with this N(S)
abbrev first_verdict : ℕ → ℕ → ℕ → Verdict
first_verdict w vr ns = (farm_step w (farm_start vr) (Ad ns)).0

-- The edges of the areas with V(R) 0. The window is the least one, of the width 2, then one of the
-- width 10, and then the greatest one, of the width 254.
pub record AreWindowEdges : Type 0 where
  pub least_expected : first_verdict 2 0 0 ≡ Accept
  pub least_first_outside : first_verdict 2 0 1 ≡ Outside
  pub least_last_outside : first_verdict 2 0 254 ≡ Outside
  pub least_late : first_verdict 2 0 255 ≡ Late
  pub expected : first_verdict 10 0 0 ≡ Accept
  pub first_early : first_verdict 10 0 1 ≡ Early
  pub last_early : first_verdict 10 0 4 ≡ Early
  pub first_outside : first_verdict 10 0 5 ≡ Outside
  pub last_outside : first_verdict 10 0 250 ≡ Outside
  pub first_late : first_verdict 10 0 251 ≡ Late
  pub last_late : first_verdict 10 0 255 ≡ Late
  pub greatest_expected : first_verdict 254 0 0 ≡ Accept
  pub greatest_first_early : first_verdict 254 0 1 ≡ Early
  pub greatest_last_early : first_verdict 254 0 126 ≡ Early
  pub greatest_first_outside : first_verdict 254 0 127 ≡ Outside
  pub greatest_last_outside : first_verdict 254 0 128 ≡ Outside
  pub greatest_first_late : first_verdict 254 0 129 ≡ Late
  pub greatest_last_late : first_verdict 254 0 255 ≡ Late

pub edges : AreWindowEdges
edges = record {
  least_expected = refl;
  least_first_outside = refl;
  least_last_outside = refl;
  least_late = refl;
  expected = refl;
  first_early = refl;
  last_early = refl;
  first_outside = refl;
  last_outside = refl;
  first_late = refl;
  last_late = refl;
  greatest_expected = refl;
  greatest_first_early = refl;
  greatest_last_early = refl;
  greatest_first_outside = refl;
  greatest_last_outside = refl;
  greatest_first_late = refl;
  greatest_last_late = refl;
}

-- V(R) 254, and N(S) ahead of it and behind it, at the edges of a window of width 10
pub record AreModulo : Type 0 where
  pub ahead_by_3 : distance 0x01 254 ≡ 3
  pub early : first_verdict 10 254 0x01 ≡ Early
  pub ahead_by_252 : distance 0xFA 254 ≡ 252
  pub late : first_verdict 10 254 0xFA ≡ Late
  pub ahead_by_251 : distance 0xF9 254 ≡ 251
  pub last_late : first_verdict 10 254 0xF9 ≡ Late
  pub ahead_by_250 : distance 0xF8 254 ≡ 250
  pub outside : first_verdict 10 254 0xF8 ≡ Outside
  pub next : (farm_step 10 (farm_start 255) (Ad 255)).1 ≡ farm_start 0

pub modulo : AreModulo
modulo = record {
  ahead_by_3 = refl;
  early = refl;
  ahead_by_252 = refl;
  late = refl;
  ahead_by_251 = refl;
  last_late = refl;
  ahead_by_250 = refl;
  outside = refl;
  next = refl;
}

-- the state with these values
abbrev state : ℕ → Bool → Bool → ℕ → FarmState
state vr lockout retransmit farm_b = record { vr = vr; lockout = lockout; retransmit = retransmit; farm_b = farm_b }

-- an early frame, a late frame, a frame outside the window, and the frame that was expected
abbrev into_lockout : List FarmEvent
into_lockout = Ad 4 ∷ Ad 251 ∷ Ad 5 ∷ Ad 0 ∷ []

-- a frame outside the window, and then the events that increment the FARM-B counter in the lockout
-- state
abbrev through_lockout : List FarmEvent
through_lockout = Ad 250 ∷ SetVr 5 ∷ Bd ∷ Unlock ∷ []

-- runs with a window of the width 10: into lockout, through it, and in the open state
pub record AreRuns : Type 0 where
  pub into_verdicts : verdicts_of 10 (farm_start 0) into_lockout ≡ Early ∷ Late ∷ Outside ∷ Refused ∷ []
  pub into_state : state_after 10 (farm_start 0) into_lockout ≡ state 0 true true 0
  pub through_verdicts : verdicts_of 10 (farm_start 0) through_lockout ≡ Outside ∷ Command ∷ Accept ∷ Command ∷ []
  pub locked : state_after 10 (farm_start 0) (Ad 250 ∷ []) ≡ state 0 true false 0
  pub set_in_lockout : state_after 10 (farm_start 0) (Ad 250 ∷ SetVr 5 ∷ []) ≡ state 0 true false 1
  pub bypassing : state_after 10 (farm_start 0) (Ad 250 ∷ SetVr 5 ∷ Bd ∷ []) ≡ state 0 true false 2
  pub unlocked : state_after 10 (farm_start 0) through_lockout ≡ state 0 false false 3
  pub unlock_resets : state_after 10 (farm_start 0) (into_lockout ++ Unlock ∷ []) ≡ state 0 false false 1
  pub set_in_lockout_keeps : state_after 10 (farm_start 0) (into_lockout ++ SetVr 5 ∷ []) ≡ state 0 true true 1
  pub bypassing_keeps : state_after 10 (farm_start 7) (Ad 8 ∷ Bd ∷ []) ≡ state 7 false true 1
  pub unlock_in_open : state_after 10 (farm_start 9) (Ad 10 ∷ Unlock ∷ []) ≡ state 9 false false 1
  pub accepted_keeps_the_counter : state_after 10 (farm_start 7) (Bd ∷ Ad 7 ∷ []) ≡ state 8 false false 1
  pub discarded_keep_the_counter : state_after 10 (farm_start 7) (Bd ∷ Ad 8 ∷ Ad 6 ∷ Ad 100 ∷ []) ≡ state 7 true true 1
  pub set_in_open : state_after 10 (farm_start 0) (Ad 4 ∷ SetVr 5 ∷ []) ≡ state 5 false false 1
  pub repeated : verdicts_of 10 (farm_start 0) (Ad 0 ∷ Ad 0 ∷ Ad 1 ∷ []) ≡ Accept ∷ Late ∷ Accept ∷ []
  pub found_again : state_after 10 (farm_start 0) (Ad 1 ∷ Ad 0 ∷ []) ≡ state 1 false false 0

pub runs : AreRuns
runs = record {
  into_verdicts = refl;
  into_state = refl;
  through_verdicts = refl;
  locked = refl;
  set_in_lockout = refl;
  bypassing = refl;
  unlocked = refl;
  unlock_resets = refl;
  set_in_lockout_keeps = refl;
  bypassing_keeps = refl;
  unlock_in_open = refl;
  accepted_keeps_the_counter = refl;
  discarded_keep_the_counter = refl;
  set_in_open = refl;
  repeated = refl;
  found_again = refl;
}

-- the octets of the CLCW after these events on a virtual channel, from V(R) 0 with a window of
-- width 10
abbrev IsReported : ℕ → List FarmEvent → List ℕ → Type 0
IsReported vc events octets = clcw_word octets ≡ clcw_of vc (state_after 10 (farm_start 0) events)

-- words of the state at the beginning, of both flags, and of the greatest and least fields
pub record AreClcws : Type 0 where
  pub start : IsReported 0 [] (0x01 ∷ 0x00 ∷ 0x00 ∷ 0x00 ∷ [])
  pub accepted : IsReported 0 (Ad 0 ∷ []) (0x01 ∷ 0x00 ∷ 0x00 ∷ 0x01 ∷ [])
  pub one_on_channel_5 : IsReported 5 (Ad 0 ∷ []) (0x01 ∷ 0x14 ∷ 0x00 ∷ 0x01 ∷ [])
  pub two_on_channel_5 : IsReported 5 (Ad 0 ∷ Ad 1 ∷ []) (0x01 ∷ 0x14 ∷ 0x00 ∷ 0x02 ∷ [])
  pub three_on_channel_5 : IsReported 5 (Ad 0 ∷ Ad 1 ∷ Ad 2 ∷ []) (0x01 ∷ 0x14 ∷ 0x00 ∷ 0x03 ∷ [])
  pub retransmit : IsReported 0 (Ad 4 ∷ []) (0x01 ∷ 0x00 ∷ 0x08 ∷ 0x00 ∷ [])
  pub into : IsReported 0 into_lockout (0x01 ∷ 0x00 ∷ 0x28 ∷ 0x00 ∷ [])
  pub set_in_lockout : IsReported 0 (Ad 250 ∷ SetVr 5 ∷ []) (0x01 ∷ 0x00 ∷ 0x22 ∷ 0x00 ∷ [])
  pub bypassing : IsReported 0 (Ad 250 ∷ SetVr 5 ∷ Bd ∷ []) (0x01 ∷ 0x00 ∷ 0x24 ∷ 0x00 ∷ [])
  pub unlocked : IsReported 0 through_lockout (0x01 ∷ 0x00 ∷ 0x06 ∷ 0x00 ∷ [])
  pub four_bypassing : IsReported 0 (Bd ∷ Bd ∷ Bd ∷ Bd ∷ []) (0x01 ∷ 0x00 ∷ 0x00 ∷ 0x00 ∷ [])
  pub last_channel : IsReported 63 (SetVr 255 ∷ []) (0x01 ∷ 0xFC ∷ 0x02 ∷ 0xFF ∷ [])

pub words : AreClcws
words = record {
  start = refl;
  accepted = refl;
  one_on_channel_5 = refl;
  two_on_channel_5 = refl;
  three_on_channel_5 = refl;
  retransmit = refl;
  into = refl;
  set_in_lockout = refl;
  bypassing = refl;
  unlocked = refl;
  four_bypassing = refl;
  last_channel = refl;
}
