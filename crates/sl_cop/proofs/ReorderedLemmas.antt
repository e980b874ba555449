-- Copies of frames of type AD that arrive in any order, and which of them are accepted.
use Rattle.std.proofs.Common.{◌≡◌, ◌⊎◌, ℕ, ◌+◌, ◌-◌, ◌%◌, ◌<◌, ◌≤◌, false, List, [], ◌∷◌, ◌++◌, length, map, inl, inr, refl, sym, ◌∙◌, ap, subst, arith, append_assoc, append-nil, length-append}
use Rattle.std.specs.List.{range_with_len}
use Rattle.sl_cop.specs.declared.farm_event.FarmEvent.{FarmEvent}
use Rattle.sl_cop.specs.declared.farm_event.FarmEvent.TheVariants.{Ad}
use Rattle.sl_cop.specs.declared.verdict.Verdict.{Verdict}
use Rattle.sl_cop.specs.declared.verdict.Verdict.TheVariants.{Accept, Early, Late, Outside, Refused, Command}
use Rattle.sl_cop.specs.Accepted.{if_accepted, accepted_by}
use Rattle.sl_cop.specs.Farm.{FarmState, IsStep, distance, farm_start, farm_step, negative_width, positive_width, state_after, verdicts_of}
use Rattle.sl_cop.specs.Reordered.{Arrival, Copy, OfTypeBd, UnlockCommand, ns_of, event_at, index_of, accepted_indices, accepted_count, state_at, IsNear, IsInWindow, AreNear, AreInWindow, AcceptedInOrder, VrCountsAccepted, InWindowAreNear, WindowKeepsOpen, ExpectedIsAccepted}
use Rattle.sl_cop.proofs.FarmLemmas.{each_has_step}
use Rattle.sl_fields.proofs.ListLemmas.{range-push}

-- ---- numbers

-- an index in the window is near
near_in_window : (w m k : ℕ) → positive_width w + negative_width w ≤ 256 → IsInWindow w m k → IsNear m k
near_in_window w m k small within = let behind = within.0 in let ahead = within.1 in (omega arith, omega arith)

-- among near indices, only the expected index has the N(S) of the expected index
expected_index : (vr m k : ℕ) → IsNear m k → distance (ns_of vr k) (ns_of vr m) ≡ 0 → k ≡ m
expected_index vr m k near same = let behind = near.0 in let ahead = near.1 in omega arith

pub no_distance : (vr m : ℕ) → distance (ns_of vr m) (ns_of vr m) ≡ 0
no_distance vr m = omega arith

-- an index in the window isn't in the lockout area
not_in_lockout_area : (w vr m k : ℕ) → positive_width w + negative_width w ≤ 256 → IsInWindow w m k → positive_width w ≤ distance (ns_of vr k) (ns_of vr m)
    → distance (ns_of vr k) (ns_of vr m) < 256 - negative_width w
    → ⊥
not_in_lockout_area w vr m k small within above below = let behind = within.0 in let ahead = within.1 in omega arith

-- V(R) after one more accepted frame
next_ns : (vr m : ℕ) → (ns_of vr m + 1) % 256 ≡ ns_of vr (m + 1)
next_ns vr m = omega arith

-- ---- lists

module _ {A : Type 0} (P : List A → Type 0) (more : (before : List A) (next : A) → P before → P (before ++ next ∷ [])) where
  after_these : (before list : List A) → P before → P (before ++ list)
  after_these before [] here = subst P (sym (append-nil before)) here
  after_these before (next ∷ list) here = subst P (append_assoc before (next ∷ []) list) (after_these (before ++ next ∷ []) list (more before next here))

  -- a property of the empty list that each further element keeps holds of every list
  pub by_one_more : P [] → (list : List A) → P list
  by_one_more none list = after_these [] list none

-- ---- one more event

module _ {A B : Type 0} (event : A → FarmEvent) (carried : A → List B) (w : ℕ) where
  -- what is accepted of one more element stands at the end
  pub accepted_more : (s : FarmState) (list : List A) (next : A)
      → accepted_by carried (verdicts_of w s (map event (list ++ next ∷ []))) (list ++ next ∷ [])
      ≡ accepted_by carried (verdicts_of w s (map event list)) list ++ if_accepted (farm_step w (state_after w s (map event list)) (event next)).0 (carried next)
  accepted_more s [] next = append-nil (if_accepted (farm_step w s (event next)).0 (carried next))
  accepted_more s (first ∷ list) next =
      let step = farm_step w s (event first) in
      let here = if_accepted step.0 (carried first) in
      let later = accepted_by carried (verdicts_of w step.1 (map event list)) list in
      ap (λ l. here ++ l) (accepted_more step.1 list next)
      ∙ sym (append_assoc here later (if_accepted (farm_step w (state_after w step.1 (map event list)) (event next)).0 (carried next)))

module _ {A : Type 0} (event : A → FarmEvent) (w : ℕ) where
  -- the state after one more element is that of one more step
  pub state_more : (s : FarmState) (list : List A) (next : A)
      → state_after w s (map event (list ++ next ∷ [])) ≡ (farm_step w (state_after w s (map event list)) (event next)).1
  state_more s [] next = refl
  state_more s (first ∷ list) next = state_more (farm_step w s (event first)).1 list next

-- ---- one arrival

-- the next step, after `m` accepted frames: it accepts no copy, or it accepts the expected one
abbrev GoesOn : ℕ → ℕ → List ℕ → FarmState → Type 0
GoesOn vr m now t = ((now ≡ []) × (t.vr ≡ ns_of vr m)) ⊎ ((now ≡ m ∷ []) × (t.vr ≡ ns_of vr (m + 1)))

-- a near copy is accepted only where it is the expected one
copy_goes_on : (w vr m k : ℕ) (s t : FarmState) (verdict : Verdict) → s.vr ≡ ns_of vr m → IsNear m k → IsStep w s (Ad (ns_of vr k)) verdict t
    → GoesOn vr m (if_accepted verdict (k ∷ [])) t
copy_goes_on w vr m k s t Accept counts near step =
    let same : k ≡ m = expected_index vr m k near (ap (λ n. distance (ns_of vr k) n) (sym counts) ∙ step.1) in
    inr (ap (λ i. i ∷ []) same, ap (λ u. u.vr) step.2 ∙ ap (λ n. (n + 1) % 256) counts ∙ next_ns vr m)
copy_goes_on w vr m k s t Early counts near step = inl (refl, ap (λ u. u.vr) step.2 ∙ counts)
copy_goes_on w vr m k s t Late counts near step = inl (refl, ap (λ u. u.vr) step.2 ∙ counts)
copy_goes_on w vr m k s t Outside counts near step = inl (refl, ap (λ u. u.vr) step.2 ∙ counts)
copy_goes_on w vr m k s t Refused counts near step = inl (refl, ap (λ u. u.vr) step.1 ∙ counts)
copy_goes_on w vr m k s t Command counts near step = absurd step

-- a copy in the window leaves FARM-1 in the open state
copy_keeps_open : (w vr m k : ℕ) (s t : FarmState) (verdict : Verdict) → positive_width w + negative_width w ≤ 256 → s.vr ≡ ns_of vr m → s.lockout ≡ false
    → IsInWindow w m k → IsStep w s (Ad (ns_of vr k)) verdict t → t.lockout ≡ false
copy_keeps_open w vr m k s t Accept small counts is_open within step = ap (λ u. u.lockout) step.2 ∙ is_open
copy_keeps_open w vr m k s t Early small counts is_open within step = ap (λ u. u.lockout) step.2 ∙ is_open
copy_keeps_open w vr m k s t Late small counts is_open within step = ap (λ u. u.lockout) step.2 ∙ is_open
copy_keeps_open w vr m k s t Outside small counts is_open within step =
    let area = rw counts at step.1 in absurd (not_in_lockout_area w vr m k small within area.1 area.2)
copy_keeps_open w vr m k s t Refused small counts is_open within step = absurd (cc)
copy_keeps_open w vr m k s t Command small counts is_open within step = absurd step

-- in the open state a frame whose N(S) is V(R) is accepted
pub accepted_where_expected : (w ns : ℕ) (s t : FarmState) (verdict : Verdict) → negative_width w < 256 → s.lockout ≡ false → distance ns s.vr ≡ 0
    → IsStep w s (Ad ns) verdict t → verdict ≡ Accept
accepted_where_expected w ns s t Accept small is_open none step = refl
accepted_where_expected w ns s t Early small is_open none step = let ahead = step.1.0 in absurd (omega arith)
accepted_where_expected w ns s t Late small is_open none step = let behind = step.1.0 in absurd (omega arith)
accepted_where_expected w ns s t Outside small is_open none step = absurd (step.1.0 none)
accepted_where_expected w ns s t Refused small is_open none step = absurd (cc)
accepted_where_expected w ns s t Command small is_open none step = absurd step

-- the same of any arrival
arrival_goes_on : (w vr m : ℕ) (s : FarmState) (arrival : Arrival) → s.vr ≡ ns_of vr m → ((k : ℕ) → arrival ≡ Copy k → IsNear m k)
    → GoesOn vr m (if_accepted (farm_step w s (event_at vr arrival)).0 (index_of arrival)) (farm_step w s (event_at vr arrival)).1
arrival_goes_on w vr m s (Copy k) counts near =
    let step = farm_step w s (Ad (ns_of vr k)) in copy_goes_on w vr m k s step.1 step.0 counts (near k refl) (each_has_step w s (Ad (ns_of vr k)))
arrival_goes_on w vr m s OfTypeBd counts near = inl (refl, counts)
arrival_goes_on w vr m s UnlockCommand counts near = inl (refl, counts)

-- an arrival leaves FARM-1 in the open state, where a copy is in the window
arrival_keeps_open : (w vr m : ℕ) (s : FarmState) (arrival : Arrival) → positive_width w + negative_width w ≤ 256 → s.vr ≡ ns_of vr m → s.lockout ≡ false
    → ((k : ℕ) → arrival ≡ Copy k → IsInWindow w m k)
    → (farm_step w s (event_at vr arrival)).1.lockout ≡ false
arrival_keeps_open w vr m s (Copy k) small counts is_open within =
    let step = farm_step w s (Ad (ns_of vr k)) in
    copy_keeps_open w vr m k s step.1 step.0 small counts is_open (within k refl) (each_has_step w s (Ad (ns_of vr k)))
arrival_keeps_open w vr m s OfTypeBd small counts is_open within = is_open
arrival_keeps_open w vr m s UnlockCommand small counts is_open within = refl

-- ---- all arrivals

pub in_window_are_near : InWindowAreNear
in_window_are_near w vr arrivals small within before after k split =
    near_in_window w (accepted_count w vr before) k small (within before after k split)

-- the accepted copies are those of the first frames that were sent, and V(R) counts them
abbrev AreCounted : ℕ → ℕ → List Arrival → Type 0
AreCounted w vr before =
    (accepted_indices w vr before ≡ range_with_len 0 (accepted_count w vr before))
    × ((state_at w vr before).vr ≡ ns_of vr (accepted_count w vr before))

counted_more : (w vr : ℕ) (before : List Arrival) (arrival : Arrival) → AreCounted w vr before
    → ((k : ℕ) → arrival ≡ Copy k → IsNear (accepted_count w vr before) k) → AreCounted w vr (before ++ arrival ∷ [])
counted_more w vr before arrival earlier near =
    let m = accepted_count w vr before in
    let all = accepted_more (event_at vr) index_of w (farm_start vr) before arrival in
    let state = ap (λ (s : FarmState). s.vr) (state_more (event_at vr) w (farm_start vr) before arrival) in
    elim (arrival_goes_on w vr m (state_at w vr before) arrival earlier.1 near) [
      | inl (none, vr_is) ↦
          let same : accepted_indices w vr (before ++ arrival ∷ []) ≡ accepted_indices w vr before =
          all ∙ ap (λ l. accepted_indices w vr before ++ l) none ∙ append-nil (accepted_indices w vr before) in
          (same ∙ earlier.0 ∙ ap (λ l. range_with_len 0 (length l)) (sym same), state ∙ vr_is ∙ ap (λ l. ns_of vr (length l)) (sym same))
      | inr (one, vr_is) ↦
          let same : accepted_indices w vr (before ++ arrival ∷ []) ≡ accepted_indices w vr before ++ m ∷ [] =
          all ∙ ap (λ l. accepted_indices w vr before ++ l) one in
          let count : accepted_count w vr (before ++ arrival ∷ []) ≡ m + 1 =
          ap (λ l. length l) same ∙ length-append (accepted_indices w vr before) (m ∷ []) in
          let last : 0 + m ≡ m = omega arith in (
            same ∙ ap (λ l. l ++ m ∷ []) earlier.0 ∙ sym (range-push 0 m m last) ∙ ap (range_with_len 0) (sym count),
            state ∙ vr_is ∙ ap (ns_of vr) (sym count),
          )
    ]

module _ (w vr : ℕ) (arrivals : List Arrival) (fits : vr < 256) where
  counted_at_each : AreNear w vr arrivals → (before after : List Arrival) → arrivals ≡ before ++ after → AreCounted w vr before
  counted_at_each near =
      by_one_more (λ before. (after : List Arrival) → arrivals ≡ before ++ after → AreCounted w vr before)
      (λ before arrival earlier after split.
      let split' : arrivals ≡ before ++ arrival ∷ after = split ∙ append_assoc before (arrival ∷ []) after in
      counted_more w vr before arrival (earlier (arrival ∷ after) split')
      (λ k is. near before after k (split' ∙ ap (λ a. before ++ a ∷ after) is)))
      (λ after split. let start : vr ≡ ns_of vr 0 = omega arith in (refl, start))

  module _ (small : positive_width w + negative_width w ≤ 256) (within : AreInWindow w vr arrivals) where
    open_at_each : (before after : List Arrival) → arrivals ≡ before ++ after → (state_at w vr before).lockout ≡ false
    open_at_each =
        by_one_more (λ before. (after : List Arrival) → arrivals ≡ before ++ after → (state_at w vr before).lockout ≡ false)
        (λ before arrival earlier after split.
        let split' : arrivals ≡ before ++ arrival ∷ after = split ∙ append_assoc before (arrival ∷ []) after in
        ap (λ (s : FarmState). s.lockout) (state_more (event_at vr) w (farm_start vr) before arrival)
        ∙ arrival_keeps_open w vr (accepted_count w vr before) (state_at w vr before) arrival small
        (counted_at_each (in_window_are_near w vr arrivals small within) before (arrival ∷ after) split').1 (earlier (arrival ∷ after) split')
        (λ k is. within before after k (split' ∙ ap (λ a. before ++ a ∷ after) is)))
        (λ after split. refl)

pub accepted_in_order : AcceptedInOrder
accepted_in_order w vr arrivals fits near = (counted_at_each w vr arrivals fits near arrivals [] (sym (append-nil arrivals))).0

pub vr_counts_accepted : VrCountsAccepted
vr_counts_accepted w vr arrivals fits near before after split = (counted_at_each w vr arrivals fits near before after split).1

pub window_keeps_open : WindowKeepsOpen
window_keeps_open w vr arrivals fits small within = open_at_each w vr arrivals fits small within

pub expected_is_accepted : ExpectedIsAccepted
expected_is_accepted w vr arrivals fits small within before after k split expected =
    let s = state_at w vr before in
    let step = farm_step w s (Ad (ns_of vr k)) in
    let counts = vr_counts_accepted w vr arrivals fits (in_window_are_near w vr arrivals small within) before (Copy k ∷ after) split in
    let none : distance (ns_of vr k) s.vr ≡ 0 =
    ap (λ i. distance (ns_of vr i) s.vr) expected ∙ ap (λ n. distance (ns_of vr (accepted_count w vr before)) n) counts ∙ no_distance vr (accepted_count w vr before) in
    let fewer : negative_width w < 256 = omega arith in
    accepted_where_expected w (ns_of vr k) s step.1 step.0 fewer (window_keeps_open w vr arrivals fits small within before (Copy k ∷ after) split) none
    (each_has_step w s (Ad (ns_of vr k)))
