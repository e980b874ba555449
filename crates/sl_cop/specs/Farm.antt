-- FARM-1, the frame acceptance and reporting mechanism of CCSDS 232.1-B, on one virtual channel.
-- Its buffers are always free: this project's choice. So FARM-1 never reaches the wait state.
--
-- What the standard leaves open is marked as this project's choice; docs/cop.md lists it. The
-- sliding window and its two parts are the standard's.
use Rattle.std.specs.Prelude.{◌≡◌, ◌≢◌, ◌⊎◌, ℕ, ◌+◌, ◌-◌, ◌/◌, ◌%◌, ◌<◌, ◌≤◌, ◌==◌, nat_lt, nat_le, Bool, true, false, if◌then◌else◌, List, [], ◌∷◌, ◌++◌, replicate, count_by, Contains}
use Rattle.sl_cop.specs.declared.farm_event.FarmEvent.{FarmEvent}
use Rattle.sl_cop.specs.declared.farm_event.FarmEvent.TheVariants.{Ad, Bd, Unlock, SetVr}
use Rattle.sl_cop.specs.declared.verdict.Verdict.{Verdict}
use Rattle.sl_cop.specs.declared.verdict.Verdict.TheVariants.{Accept, Early, Late, Outside, Refused, Command}

-- The state: the receiver frame sequence number V(R), the Lockout flag, the Retransmit flag, and
-- the FARM-B counter modulo 4. The Lockout flag is 1 in the lockout state, and 0 in the open state.
pub record FarmState : Type 0 where
  pub vr : ℕ
  pub lockout : Bool
  pub retransmit : Bool
  pub farm_b : ℕ

-- The first state: the open state with this V(R), the Retransmit flag 0 and the FARM-B counter 0.
-- This project's choice.
abbrev pub farm_start : ℕ → FarmState
farm_start vr = record { vr = vr; lockout = false; retransmit = false; farm_b = 0 }

-- what a `Farm` stands for in clauses: the width of its window, and its state
pub record FarmView : Type 0 where
  pub window : ℕ
  pub state : FarmState

-- ---- the sliding window

-- The width (W) of a window is even and not 0. The bound of W in CCSDS 232.1-B, 254, is in the
-- invariant of the type `Window`, `IsWindow`.
pub record IsWidth (w : ℕ) : Type 0 where
  pub positive : 0 < w
  pub even : w % 2 ≡ 0

-- the distance by which N(S) is ahead of V(R), modulo 256
abbrev pub distance : ℕ → ℕ → ℕ
distance ns vr = (ns + 256 - vr) % 256

-- The width of the positive part (PW): half the width of the window, CCSDS 232.1-B.
abbrev pub positive_width : ℕ → ℕ
positive_width w = w / 2

-- The width of the negative part (NW): half the width of the window, CCSDS 232.1-B.
abbrev pub negative_width : ℕ → ℕ
negative_width w = w / 2

-- The areas in which N(S) may lie. The positive part of the window begins with V(R) itself, which
-- is the area `Expected` here.
pub data Area : Type 0 where
  Expected : Area
  PositivePart : Area
  NegativePart : Area
  LockoutArea : Area

-- N(S) lies in this area, with a window of the width `w`, where N(S) is ahead of V(R) by the
-- distance `d`. Greater and less are meant modulo 256.
abbrev pub IsArea : ℕ → ℕ → Area → Type 0
-- N(S) equals V(R).
IsArea w d Expected = d ≡ 0
-- N(S) is greater than V(R), and lies in the positive part of the sliding window.
IsArea w d PositivePart = (1 ≤ d) × (d < positive_width w)
-- N(S) is less than V(R), and lies in the negative part of the sliding window.
IsArea w d NegativePart = (256 - negative_width w ≤ d) × (d < 256)
-- N(S) lies outside the sliding window: in neither part, and not equal to V(R).
IsArea w d LockoutArea = (d ≢ 0) × (positive_width w ≤ d) × (d < 256 - negative_width w)

-- the area in which N(S) lies, with a window of the width `w`, where N(S) is ahead of V(R) by the
-- distance `d`
abbrev pub area_of : ℕ → ℕ → Area
area_of w d =
    if d == 0 then Expected
    else if nat_lt d (positive_width w) then PositivePart
    else if nat_le (256 - negative_width w) d then NegativePart
    else LockoutArea

-- ---- the FARM-1 state table

-- the state with the FARM-B counter incremented
abbrev pub counted : FarmState → FarmState
counted s = record s { farm_b = (s.farm_b + 1) % 4 }

-- A step, one entry of the FARM-1 state table: with a window of the width `w`, in the state `s`,
-- the event has this verdict and leads to the state `t`.
abbrev pub IsStep : ℕ → FarmState → FarmEvent → Verdict → FarmState → Type 0
-- A frame of type AD arrives in the open state and N(S) equals V(R): the frame is accepted, V(R) is
-- incremented, and the Retransmit flag is reset.
IsStep w s (Ad ns) Accept t =
    (s.lockout ≡ false) × IsArea w (distance ns s.vr) Expected
    × (t ≡ record s { vr = (s.vr + 1) % 256; retransmit = false })
-- A frame of type AD arrives in the open state, and N(S) is in the positive part of the sliding
-- window: the frame is discarded, and the Retransmit flag is set.
IsStep w s (Ad ns) Early t =
    (s.lockout ≡ false) × IsArea w (distance ns s.vr) PositivePart × (t ≡ record s { retransmit = true })
-- A frame of type AD arrives in the open state, and N(S) is in the negative part of the sliding
-- window: the frame is discarded, and nothing changes.
IsStep w s (Ad ns) Late t = (s.lockout ≡ false) × IsArea w (distance ns s.vr) NegativePart × (t ≡ s)
-- A frame of type AD arrives in the open state, and N(S) is in the lockout area: the frame is
-- discarded, and the Lockout flag is set. The Retransmit flag stays: this project's choice.
IsStep w s (Ad ns) Outside t =
    (s.lockout ≡ false) × IsArea w (distance ns s.vr) LockoutArea × (t ≡ record s { lockout = true })
-- A frame of type AD arrives in the lockout state, with any N(S): the frame is discarded, and
-- nothing changes.
IsStep w s (Ad ns) Refused t = (s.lockout ≡ true) × (t ≡ s)
-- A frame of type AD is no control command.
IsStep w s (Ad ns) Command t = ⊥
-- A frame of type BD arrives, in either state: the frame is accepted, and the FARM-B counter is
-- incremented.
IsStep w s Bd Accept t = t ≡ counted s
-- A frame of type BD bypasses the acceptance checks, and is no control command. No other verdict is
-- possible.
IsStep w s Bd Early t = ⊥
IsStep w s Bd Late t = ⊥
IsStep w s Bd Outside t = ⊥
IsStep w s Bd Refused t = ⊥
IsStep w s Bd Command t = ⊥
-- The control command Unlock arrives, in either state: the FARM-B counter is incremented, and the
-- Retransmit flag and the Lockout flag are reset.
IsStep w s Unlock Command t = t ≡ record (counted s) { lockout = false; retransmit = false }
-- Unlock bypasses the acceptance checks, and carries no frame data unit. No other verdict is
-- possible.
IsStep w s Unlock Accept t = ⊥
IsStep w s Unlock Early t = ⊥
IsStep w s Unlock Late t = ⊥
IsStep w s Unlock Outside t = ⊥
IsStep w s Unlock Refused t = ⊥
-- The control command Set V(R) arrives: the FARM-B counter is incremented. In the open state the
-- Retransmit flag is reset, and V(R) is set to the value of the command. In the lockout state
-- nothing else changes; the increment in this state is this project's choice.
IsStep w s (SetVr x) Command t =
    ((s.lockout ≡ false) × (t ≡ record (counted s) { vr = x; retransmit = false }))
    ⊎ ((s.lockout ≡ true) × (t ≡ counted s))
-- Set V(R) bypasses the acceptance checks, and carries no frame data unit. No other verdict is
-- possible.
IsStep w s (SetVr x) Accept t = ⊥
IsStep w s (SetVr x) Early t = ⊥
IsStep w s (SetVr x) Late t = ⊥
IsStep w s (SetVr x) Outside t = ⊥
IsStep w s (SetVr x) Refused t = ⊥

-- ---- the verdict and the state after an event

-- the verdict on a frame of type AD in the open state, by the area in which N(S) lies
abbrev pub verdict_in : Area → Verdict
verdict_in Expected = Accept
verdict_in PositivePart = Early
verdict_in NegativePart = Late
verdict_in LockoutArea = Outside

-- the state after a frame of type AD in the open state, by the area in which N(S) lies
abbrev pub state_in : Area → FarmState → FarmState
state_in Expected s = record s { vr = (s.vr + 1) % 256; retransmit = false }
state_in PositivePart s = record s { retransmit = true }
state_in NegativePart s = s
state_in LockoutArea s = record s { lockout = true }

-- the step in the state table as a function: the verdict, and the state after the event
abbrev pub farm_step : ℕ → FarmState → FarmEvent → Verdict × FarmState
farm_step w s (Ad ns) =
    let area = area_of w (distance ns s.vr) in
    if s.lockout then (Refused, s) else (verdict_in area, state_in area s)
farm_step w s Bd = (Accept, counted s)
farm_step w s Unlock = (Command, record (counted s) { lockout = false; retransmit = false })
farm_step w s (SetVr x) = (Command, if s.lockout then counted s else record (counted s) { vr = x; retransmit = false })

-- ---- runs

-- A run: from the first state `s`, the events one after another have these verdicts and lead to the
-- state `t`.
abbrev pub IsRun : ℕ → FarmState → List FarmEvent → List Verdict → FarmState → Type 0
IsRun w s [] [] t = t ≡ s
IsRun w s (event ∷ events) (verdict ∷ verdicts) t =
    (mid : FarmState) × IsStep w s event verdict mid × IsRun w mid events verdicts t
IsRun w s [] (verdict ∷ verdicts) t = ⊥
IsRun w s (event ∷ events) [] t = ⊥

-- the verdicts on events one after another, from the state `s` on
abbrev pub verdicts_of : ℕ → FarmState → List FarmEvent → List Verdict
verdicts_of w s [] = []
verdicts_of w s (event ∷ events) = (farm_step w s event).0 ∷ verdicts_of w (farm_step w s event).1 events

-- the state after events one after another, from the state `s` on
abbrev pub state_after : ℕ → FarmState → List FarmEvent → FarmState
state_after w s [] = s
state_after w s (event ∷ events) = state_after w (farm_step w s event).1 events

-- ---- the state table has one entry for each state and event

-- What the function `farm_step` answers is a step, for every width and state.
abbrev pub EachHasStep : Type 0
EachHasStep =
    (w : ℕ) (s : FarmState) (event : FarmEvent) → IsStep w s event (farm_step w s event).0 (farm_step w s event).1

-- No other step exists, where PW and NW together are at most 256, so that the two parts of the
-- window don't overlap.
abbrev pub HasStepOnce : Type 0
HasStepOnce =
    (w : ℕ) (s : FarmState) (event : FarmEvent) (verdict : Verdict) (t : FarmState)
    → positive_width w + negative_width w ≤ 256 → IsStep w s event verdict t
    → ((farm_step w s event).0 ≡ verdict) × ((farm_step w s event).1 ≡ t)

-- ---- events have one run

-- What the functions `verdicts_of` and `state_after` answer is a run, for every width and first
-- state.
abbrev pub EachHasRun : Type 0
EachHasRun =
    (w : ℕ) (s : FarmState) (events : List FarmEvent)
    → IsRun w s events (verdicts_of w s events) (state_after w s events)

-- No other run exists, where PW and NW together are at most 256.
abbrev pub HasRunOnce : Type 0
HasRunOnce =
    (w : ℕ) (s : FarmState) (events : List FarmEvent) (verdicts : List Verdict) (t : FarmState)
    → positive_width w + negative_width w ≤ 256 → IsRun w s events verdicts t
    → (verdicts_of w s events ≡ verdicts) × (state_after w s events ≡ t)

-- A run and a step from its last state are a run over one more event.
abbrev pub RunsGoOn : Type 0
RunsGoOn =
    (w : ℕ) (s mid t : FarmState) (events : List FarmEvent) (event : FarmEvent) (verdicts : List Verdict)
    (verdict : Verdict) → IsRun w s events verdicts mid → IsStep w mid event verdict t
    → IsRun w s (events ++ event ∷ []) (verdicts ++ verdict ∷ []) t

-- Each run over one more event is a run and a step from its last state.
abbrev pub RunsEndInAStep : Type 0
RunsEndInAStep =
    (w : ℕ) (s t : FarmState) (events : List FarmEvent) (event : FarmEvent) (verdicts : List Verdict)
    → IsRun w s (events ++ event ∷ []) verdicts t
    → (earlier : List Verdict) × (verdict : Verdict) × (mid : FarmState) × IsRun w s events earlier mid
    × IsStep w mid event verdict t × (verdicts ≡ earlier ++ verdict ∷ [])

-- The functions go on by a step: over one more event `verdicts_of` has the verdict of `farm_step`
-- as its last one, and `state_after` is the state of `farm_step`.
abbrev pub RunsAreSteps : Type 0
RunsAreSteps =
    (w : ℕ) (s : FarmState) (events : List FarmEvent) (event : FarmEvent)
    → (verdicts_of w s (events ++ event ∷ [])
    ≡ verdicts_of w s events ++ (farm_step w (state_after w s events) event).0 ∷ [])
    × (state_after w s (events ++ event ∷ []) ≡ (farm_step w (state_after w s events) event).1)

-- ---- properties of steps and runs

-- whether a verdict accepts the frame data unit
abbrev pub is_accept : Verdict → Bool
is_accept Accept = true
is_accept verdict = false

-- Among frames of type AD in a row that all have the same N(S), at most one is accepted, for every
-- window.
abbrev pub CopiesAreAcceptedOnce : Type 0
CopiesAreAcceptedOnce =
    (w copies ns : ℕ) (s t : FarmState) (verdicts : List Verdict) → s.vr < 256
    → IsRun w s (replicate copies (Ad ns)) verdicts t → count_by is_accept verdicts ≤ 1

-- In the lockout state each frame of type AD is refused, and changes nothing.
abbrev pub LockoutRefuses : Type 0
LockoutRefuses =
    (w ns : ℕ) (s t : FarmState) (verdict : Verdict) → s.lockout ≡ true → IsStep w s (Ad ns) verdict t
    → (verdict ≡ Refused) × (t ≡ s)

-- The event of a step from the lockout state to the open state is Unlock.
abbrev pub OnlyUnlockEndsLockout : Type 0
OnlyUnlockEndsLockout =
    (w : ℕ) (s t : FarmState) (event : FarmEvent) (verdict : Verdict) → s.lockout ≡ true → IsStep w s event verdict t
    → t.lockout ≡ false → event ≡ Unlock

-- The events of a run from the lockout state to the open state have an Unlock among them.
abbrev pub LockoutLastsUntilUnlock : Type 0
LockoutLastsUntilUnlock =
    (w : ℕ) (s t : FarmState) (events : List FarmEvent) (verdicts : List Verdict) → s.lockout ≡ true
    → IsRun w s events verdicts t → t.lockout ≡ false → Contains events Unlock

-- V(R) changes in two cases only. An accepted frame of type AD increments V(R) modulo 256, and Set
-- V(R) in the open state sets V(R) to the value of the command.
abbrev pub VrHasACause : Type 0
VrHasACause =
    (w : ℕ) (s t : FarmState) (event : FarmEvent) (verdict : Verdict) → IsStep w s event verdict t → t.vr ≢ s.vr
    → ((ns : ℕ) × (event ≡ Ad ns) × (verdict ≡ Accept) × (t.vr ≡ (s.vr + 1) % 256))
    ⊎ ((x : ℕ) × (event ≡ SetVr x) × (s.lockout ≡ false) × (t.vr ≡ x))
