-- Known copies that arrive out of order, lost and repeated. They show that the laws aren't empty,
-- and what FARM-1 does with copies that are too far away.
use Rattle.std.proofs.Common.{◌≡◌, ℕ, ◌+◌, Bool, true, false, List, [], ◌∷◌, ◌++◌, get_or, drop, map, refl, ap, subst, arith, rules}
use Rattle.std.specs.List.{range_with_len}
use Rattle.sl_cop.specs.declared.verdict.Verdict.TheVariants.{Accept, Early, Late, Outside, Refused, Command}
use Rattle.sl_cop.specs.Farm.{farm_start, verdicts_of}
use Rattle.sl_cop.specs.Reordered.{Arrival, Copy, OfTypeBd, UnlockCommand, events_at, accepted_indices, accepted_count, state_at, OfEachCopy, IsNear, IsInWindow, AreNear, AreInWindow}

-- ---- properties of each copy, one after another

-- the property holds of the index, where the arrival is a copy
abbrev IfCopy : (ℕ → Type 0) → Arrival → Type 0
IfCopy holds (Copy k) = holds k
IfCopy holds OfTypeBd = Unit {0}
IfCopy holds UnlockCommand = Unit {0}

-- the relation holds for each copy of the list, one copy after another
abbrev pub OneByOne : (List Arrival → ℕ → Type 0) → List Arrival → Type 0
OneByOne holds [] = Unit {0}
OneByOne holds (arrival ∷ rest) = IfCopy (holds []) arrival × OneByOne (λ before. holds (arrival ∷ before)) rest

-- what holds for the copies one after another holds for each of them
pub of_each : (holds : List Arrival → ℕ → Type 0) (arrivals : List Arrival) → OneByOne holds arrivals → OfEachCopy arrivals holds
of_each holds [] all [] after k split = absurd (cc)
of_each holds [] all (b ∷ before) after k split = absurd (cc)
of_each holds (arrival ∷ rest) all [] after k split = subst (IfCopy (holds [])) (ap (λ l. get_or l 0 arrival) split) all.0
of_each holds (arrival ∷ rest) all (b ∷ before) after k split =
    subst (λ a. holds (a ∷ before) k) (ap (λ l. get_or l 0 arrival) split) (of_each (λ l. holds (arrival ∷ l)) rest all.1 before after k (ap (drop 1) split))

-- ---- copies in the window, while V(R) passes 255

abbrev shuffled : List Arrival
shuffled = Copy 1 ∷ Copy 0 ∷ OfTypeBd ∷ Copy 0 ∷ Copy 3 ∷ Copy 1 ∷ UnlockCommand ∷ Copy 2 ∷ Copy 1 ∷ Copy 3 ∷ []

pub shuffled_in_window : AreInWindow 10 254 shuffled
shuffled_in_window = of_each (λ before k. IsInWindow 10 (accepted_count 10 254 before) k) shuffled (search rules)

-- ---- near copies that aren't in the window, and so a lockout

abbrev pub far : List Arrival
far = Copy 0 ∷ Copy 100 ∷ Copy 1 ∷ UnlockCommand ∷ Copy 256 ∷ Copy 1 ∷ Copy 1 ∷ []

pub far_are_near : AreNear 10 254 far
far_are_near = of_each (λ before k. IsNear (accepted_count 10 254 before) k) far (search rules)

-- ---- the verdicts on these copies

pub record HaveVerdicts : Type 0 where
  pub shuffled_verdicts : verdicts_of 10 (farm_start 254) (events_at 254 shuffled)
      ≡ Early ∷ Accept ∷ Accept ∷ Late ∷ Early ∷ Accept ∷ Command ∷ Accept ∷ Late ∷ Accept ∷ []
  pub shuffled_indices : accepted_indices 10 254 shuffled ≡ 0 ∷ 1 ∷ 2 ∷ 3 ∷ []
  pub shuffled_vr : (state_at 10 254 shuffled).vr ≡ 2
  pub far_verdicts : verdicts_of 10 (farm_start 254) (events_at 254 far)
      ≡ Accept ∷ Outside ∷ Refused ∷ Command ∷ Late ∷ Accept ∷ Late ∷ []
  pub far_indices : accepted_indices 10 254 far ≡ 0 ∷ 1 ∷ []
  pub far_vr : (state_at 10 254 far).vr ≡ 0

pub are_accepted : HaveVerdicts
are_accepted = record {
  shuffled_verdicts = refl;
  shuffled_indices = refl;
  shuffled_vr = refl;
  far_verdicts = refl;
  far_indices = refl;
  far_vr = refl;
}

-- ---- the farthest copies that are near, and the next ones

-- one copy of each of the first frames
abbrev one_of_each : ℕ → List Arrival
one_of_each n = map Copy (range_with_len 0 n)

-- A copy that is 255 after the expected frame, or 255 before it, is near, and isn't accepted.
pub record AreNearEdges : Type 0 where
  pub ahead : IsNear 0 255
  pub ahead_indices : accepted_indices 10 254 (Copy 255 ∷ []) ≡ []
  pub behind : IsNear 255 0
  pub behind_by : accepted_count 10 254 (one_of_each 255) ≡ 255
  pub behind_indices : accepted_indices 10 254 (one_of_each 255 ++ Copy 0 ∷ []) ≡ range_with_len 0 255

pub near_edges : AreNearEdges
near_edges = record {
  ahead = (omega arith, omega arith);
  ahead_indices = refl;
  behind = (omega arith, omega arith);
  behind_by = refl;
  behind_indices = refl;
}

-- A copy that is 256 after the expected frame, or 256 before it, has the expected N(S). It is
-- accepted, out of order.
pub record AreTooFar : Type 0 where
  pub ahead : accepted_indices 10 254 (Copy 256 ∷ []) ≡ 256 ∷ []
  pub ahead_by : 256 ≡ accepted_count 10 254 [] + 256
  pub behind : accepted_indices 10 254 (one_of_each 256 ++ Copy 0 ∷ []) ≡ range_with_len 0 256 ++ 0 ∷ []
  pub behind_by : accepted_count 10 254 (one_of_each 256) ≡ 0 + 256

pub are_too_far : AreTooFar
are_too_far = record {
  ahead = refl;
  ahead_by = refl;
  behind = refl;
  behind_by = refl;
}

-- ---- the edges of windows

-- whether FARM-1 with this window is in lockout after a copy of the frame with this index, as the
-- first arrival
abbrev lockout_ahead : ℕ → ℕ → Bool
lockout_ahead w index = (state_at w 254 (Copy index ∷ [])).lockout

-- whether FARM-1 is in lockout after a copy of the first frame, after a copy of each of the first
-- `n` frames
abbrev lockout_behind : ℕ → ℕ → Bool
lockout_behind w n = (state_at w 254 (one_of_each n ++ Copy 0 ∷ [])).lockout

-- The last indices in a window leave FARM-1 in the open state, and the next ones don't.
pub record AreEdges (w ahead behind : ℕ) : Type 0 where
  pub last_ahead : IsInWindow w 0 ahead
  pub last_ahead_open : lockout_ahead w ahead ≡ false
  pub past_ahead : IsInWindow w 0 (ahead + 1) → ⊥
  pub past_ahead_locks : lockout_ahead w (ahead + 1) ≡ true
  pub last_behind : IsInWindow w behind 0
  pub last_behind_open : lockout_behind w behind ≡ false
  pub past_behind : IsInWindow w (behind + 1) 0 → ⊥
  pub past_behind_locks : lockout_behind w (behind + 1) ≡ true

pub edges_of_10 : AreEdges 10 4 5
edges_of_10 = record {
  last_ahead = (omega arith, omega arith);
  last_ahead_open = refl;
  past_ahead = λ within. let ahead = within.1 in omega arith;
  past_ahead_locks = refl;
  last_behind = (omega arith, omega arith);
  last_behind_open = refl;
  past_behind = λ within. let behind = within.0 in omega arith;
  past_behind_locks = refl;
}

-- the smallest window: the expected frame and the one before it
pub edges_of_2 : AreEdges 2 0 1
edges_of_2 = record {
  last_ahead = (omega arith, omega arith);
  last_ahead_open = refl;
  past_ahead = λ within. let ahead = within.1 in omega arith;
  past_ahead_locks = refl;
  last_behind = (omega arith, omega arith);
  last_behind_open = refl;
  past_behind = λ within. let behind = within.0 in omega arith;
  past_behind_locks = refl;
}

-- the greatest window: only two sequence numbers are left outside
pub edges_of_254 : AreEdges 254 126 127
edges_of_254 = record {
  last_ahead = (omega arith, omega arith);
  last_ahead_open = refl;
  past_ahead = λ within. let ahead = within.1 in omega arith;
  past_ahead_locks = refl;
  last_behind = (omega arith, omega arith);
  last_behind_open = refl;
  past_behind = λ within. let behind = within.0 in omega arith;
  past_behind_locks = refl;
}
