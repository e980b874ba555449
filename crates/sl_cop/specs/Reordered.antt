-- Copies of frames of type AD that arrive at FARM-1, CCSDS 232.1-B, in any order, and may be lost
-- or repeated. The frames were sent with N(S) counting from the initial V(R) on, modulo 256. The
-- index of a copy is the number of its frame in the order of sending, from 0 on.
use Rattle.std.specs.Prelude.{◌≡◌, ℕ, ◌+◌, ◌%◌, ◌<◌, ◌≤◌, false, List, [], ◌∷◌, ◌++◌, length, map}
use Rattle.std.specs.List.{range_with_len}
use Rattle.sl_cop.specs.declared.farm_event.FarmEvent.{FarmEvent}
use Rattle.sl_cop.specs.declared.farm_event.FarmEvent.TheVariants.{Ad, Bd, Unlock}
use Rattle.sl_cop.specs.declared.verdict.Verdict.{Verdict}
use Rattle.sl_cop.specs.declared.verdict.Verdict.TheVariants.{Accept}
use Rattle.sl_cop.specs.Accepted.{accepted_by}
use Rattle.sl_cop.specs.Farm.{FarmState, farm_start, farm_step, negative_width, positive_width, state_after, verdicts_of}

-- What arrives: a copy of the frame with this index, a frame of type BD, or the control command
-- Unlock. Set V(R) doesn't arrive.
pub data Arrival : Type 0 where
  Copy : (index : ℕ) → Arrival
  OfTypeBd : Arrival
  UnlockCommand : Arrival

-- the N(S) of the frame with this index, with this initial V(R)
abbrev pub ns_of : ℕ → ℕ → ℕ
ns_of vr index = (vr + index) % 256

-- the event of FARM-1 at an arrival, with this initial V(R)
abbrev pub event_at : ℕ → Arrival → FarmEvent
event_at vr (Copy index) = Ad (ns_of vr index)
event_at vr OfTypeBd = Bd
event_at vr UnlockCommand = Unlock

-- the events of FARM-1 at these arrivals, one after another
abbrev pub events_at : ℕ → List Arrival → List FarmEvent
events_at vr arrivals = map (event_at vr) arrivals

-- the index of a copy, as a list of one; the empty list where the arrival is no copy
abbrev pub index_of : Arrival → List ℕ
index_of (Copy index) = index ∷ []
index_of OfTypeBd = []
index_of UnlockCommand = []

-- the indices of the copies that FARM-1 accepts with this window and this initial V(R), in the
-- order of acceptance
abbrev pub accepted_indices : ℕ → ℕ → List Arrival → List ℕ
accepted_indices w vr arrivals = accepted_by index_of (verdicts_of w (farm_start vr) (events_at vr arrivals)) arrivals

-- the number of accepted frames of type AD, which is the index of the frame that is expected next
abbrev pub accepted_count : ℕ → ℕ → List Arrival → ℕ
accepted_count w vr arrivals = length (accepted_indices w vr arrivals)

-- the state after these arrivals, from the first state with this initial V(R) on
abbrev pub state_at : ℕ → ℕ → List Arrival → FarmState
state_at w vr arrivals = state_after w (farm_start vr) (events_at vr arrivals)

-- the verdict on an arrival after the arrivals `before`
abbrev pub verdict_at : ℕ → ℕ → List Arrival → Arrival → Verdict
verdict_at w vr before arrival = (farm_step w (state_at w vr before) (event_at vr arrival)).0

-- ---- how far out of order copies are

-- At each moment the property holds of the arrivals up to this moment, which are a beginning of the
-- list.
abbrev pub AtEachMoment : {A : Type 0} → List A → (List A → Type 0) → Type 0
AtEachMoment {A = A} arrivals holds = (before after : List A) → arrivals ≡ before ++ after → holds before

-- For each copy the relation holds between the arrivals before the copy and the index of the copy.
abbrev pub OfEachCopy : List Arrival → (List Arrival → ℕ → Type 0) → Type 0
OfEachCopy arrivals holds =
    (before after : List Arrival) (index : ℕ) → arrivals ≡ before ++ Copy index ∷ after → holds before index

-- An index is near: less than 256 before or after the expected index. So a near index other than
-- the expected one has another N(S).
abbrev pub IsNear : ℕ → ℕ → Type 0
IsNear expected index = (expected < index + 256) × (index < expected + 256)

-- An index is in the sliding window: the expected index, or at most NW before the expected index,
-- or less than PW after the expected index.
abbrev pub IsInWindow : ℕ → ℕ → ℕ → Type 0
IsInWindow w expected index = (expected ≤ index + negative_width w) × (index < expected + positive_width w)

-- Each copy is near the frame that is expected at the copy's arrival.
abbrev pub AreNear : ℕ → ℕ → List Arrival → Type 0
AreNear w vr arrivals = OfEachCopy arrivals (λ before index. IsNear (accepted_count w vr before) index)

-- Each copy is in the window at its arrival.
abbrev pub AreInWindow : ℕ → ℕ → List Arrival → Type 0
AreInWindow w vr arrivals = OfEachCopy arrivals (λ before index. IsInWindow w (accepted_count w vr before) index)

-- ---- laws

-- Where all copies are near, the accepted copies have the indices 0, 1 and so on: in order, each
-- once, and none left out. This holds for every width of the window.
abbrev pub AcceptedInOrder : Type 0
AcceptedInOrder =
    (w vr : ℕ) (arrivals : List Arrival) → vr < 256 → AreNear w vr arrivals
    → accepted_indices w vr arrivals ≡ range_with_len 0 (accepted_count w vr arrivals)

-- Where all copies are near, V(R) is at each moment the initial V(R) plus the number of accepted
-- frames of type AD, modulo 256: the N(S) of the frame that is expected next.
abbrev pub VrCountsAccepted : Type 0
VrCountsAccepted =
    (w vr : ℕ) (arrivals : List Arrival) → vr < 256 → AreNear w vr arrivals
    → AtEachMoment arrivals (λ before. (state_at w vr before).vr ≡ ns_of vr (accepted_count w vr before))

-- Where PW and NW together are at most 256, copies in the window are near.
abbrev pub InWindowAreNear : Type 0
InWindowAreNear =
    (w vr : ℕ) (arrivals : List Arrival) → positive_width w + negative_width w ≤ 256 → AreInWindow w vr arrivals
    → AreNear w vr arrivals

-- Where PW and NW together are at most 256, and each copy is in the window, the Lockout flag is
-- never set.
abbrev pub WindowKeepsOpen : Type 0
WindowKeepsOpen =
    (w vr : ℕ) (arrivals : List Arrival) → vr < 256 → positive_width w + negative_width w ≤ 256
    → AreInWindow w vr arrivals → AtEachMoment arrivals (λ before. (state_at w vr before).lockout ≡ false)

-- Where PW and NW together are at most 256, and each copy is in the window, each copy of the
-- expected frame is accepted.
abbrev pub ExpectedIsAccepted : Type 0
ExpectedIsAccepted =
    (w vr : ℕ) (arrivals : List Arrival) → vr < 256 → positive_width w + negative_width w ≤ 256
    → AreInWindow w vr arrivals
    → OfEachCopy arrivals
    (λ before index. index ≡ accepted_count w vr before → verdict_at w vr before (Copy index) ≡ Accept)
