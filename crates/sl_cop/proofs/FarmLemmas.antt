-- Steps and runs of FARM-1.
use Rattle.std.proofs.Common.{◌≡◌, ◌≢◌, ◌⊎◌, ℕ, zero, suc, ◌+◌, ◌%◌, ◌<◌, true, false, List, [], ◌∷◌, replicate, inl, inr, refl, sym, ◌∙◌, ap, arith, rules}
use Rattle.std.specs.List.{count_by}
use Rattle.std.proofs.lemmas.Grind.{common_steps}
use Rattle.std.proofs.lemmas.List.Elements.{Contains-append_right}
use Rattle.std.proofs.lemmas.List.Sums.{sum_by-cons}
use Rattle.sl_cop.specs.declared.farm_event.FarmEvent.{FarmEvent}
use Rattle.sl_cop.specs.declared.farm_event.FarmEvent.TheVariants.{Ad, Unlock}
use Rattle.sl_cop.specs.declared.verdict.Verdict.{Verdict}
use Rattle.sl_cop.specs.declared.verdict.Verdict.TheVariants.{Accept, Early, Late, Outside, Refused, Command}
use Rattle.sl_cop.specs.Farm.{FarmState, IsStep, IsRun, distance, farm_step, verdicts_of, state_after, is_accept, EachHasStep, HasStepOnce, EachHasRun, HasRunOnce, RunsGoOn, RunsEndInAStep, RunsAreSteps, CopiesAreAcceptedOnce, LockoutLastsUntilUnlock}

-- ---- steps

pub each_has_step : EachHasStep
each_has_step w s event = search rules

pub has_step_once : HasStepOnce
has_step_once w s event verdict t small step = search rules

-- ---- runs

pub each_has_run : EachHasRun
each_has_run w s [] = refl
each_has_run w s (event ∷ events) = ((farm_step w s event).1, each_has_step w s event, each_has_run w (farm_step w s event).1 events)

pub has_run_once : HasRunOnce
has_run_once w s [] [] t small run = (refl, sym run)
has_run_once w s [] (verdict ∷ verdicts) t small run = absurd run
has_run_once w s (event ∷ events) [] t small run = absurd run
has_run_once w s (event ∷ events) (verdict ∷ verdicts) t small run =
    let step = has_step_once w s event verdict run.0 small run.1 in
    let rest = has_run_once w run.0 events verdicts t small run.2 in
    let at : FarmState = (farm_step w s event).1 in (
      ap (λ v. v ∷ verdicts_of w at events) step.0 ∙ ap (λ m. verdict ∷ verdicts_of w m events) step.1 ∙ ap (λ vs. verdict ∷ vs) rest.0,
      ap (λ m. state_after w m events) step.1 ∙ rest.1,
    )

pub runs_go_on : RunsGoOn
runs_go_on w s mid t [] event [] verdict run step = (t, (rw (← run) step), refl)
runs_go_on w s mid t [] event (v ∷ verdicts) verdict run step = absurd run
runs_go_on w s mid t (e ∷ events) event [] verdict run step = absurd run
runs_go_on w s mid t (e ∷ events) event (v ∷ verdicts) verdict run step = (run.0, run.1, runs_go_on w run.0 mid t events event verdicts verdict run.2 step)

pub runs_end_in_a_step : RunsEndInAStep
runs_end_in_a_step w s t [] event [] run = absurd run
runs_end_in_a_step w s t [] event (v ∷ []) run = ([], v, s, refl, (rw run.2 run.1), refl)
runs_end_in_a_step w s t [] event (v ∷ u ∷ verdicts) run = absurd run.2
runs_end_in_a_step w s t (e ∷ events) event [] run = absurd run
runs_end_in_a_step w s t (e ∷ events) event (v ∷ verdicts) run =
    let later = runs_end_in_a_step w run.0 t events event verdicts run.2 in
    (v ∷ later.0, later.1, later.2, (run.0, run.1, later.3), later.4, ap (λ vs. v ∷ vs) later.5)

pub runs_are_steps : RunsAreSteps
runs_are_steps w s [] event = (refl, refl)
runs_are_steps w s (e ∷ events) event =
    let later = runs_are_steps w (farm_step w s e).1 events event in
    (ap (λ vs. (farm_step w s e).0 ∷ vs) later.0, later.1)

-- ---- properties that FARM-1 keeps

-- where N(S) isn't V(R), the frame isn't accepted, and V(R) stays
not_expected : (w ns : ℕ) (s t : FarmState) (verdict : Verdict) → distance ns s.vr ≢ 0 → IsStep w s (Ad ns) verdict t
    → (is_accept verdict ≡ false) × (t.vr ≡ s.vr)
not_expected w ns s t Accept other step = absurd (other step.1)
not_expected w ns s t Early other step = (refl, ap (λ u. u.vr) step.2)
not_expected w ns s t Late other step = (refl, ap (λ u. u.vr) step.2)
not_expected w ns s t Outside other step = (refl, ap (λ u. u.vr) step.2)
not_expected w ns s t Refused other step = (refl, ap (λ u. u.vr) step.1)
not_expected w ns s t Command other step = absurd step

-- where N(S) isn't V(R), none of the copies is accepted
none_accepted : (w copies ns : ℕ) (s t : FarmState) (verdicts : List Verdict) → distance ns s.vr ≢ 0 → IsRun w s (replicate copies (Ad ns)) verdicts t
    → count_by is_accept verdicts ≡ 0
none_accepted w zero ns s t [] other run = refl
none_accepted w zero ns s t (v ∷ verdicts) other run = absurd run
none_accepted w (suc copies) ns s t [] other run = absurd run
none_accepted w (suc copies) ns s t (v ∷ verdicts) other run =
    let step = not_expected w ns s run.0 v other run.1 in
    let later = none_accepted w copies ns run.0 t verdicts (λ e. other (ap (λ vr. distance ns vr) (sym step.1) ∙ e)) run.2 in
    rw step.0 later

-- after the expected frame, its N(S) is no longer V(R)
passed : (ns vr : ℕ) → vr < 256 → distance ns vr ≡ 0 → distance ns ((vr + 1) % 256) ≢ 0
passed ns vr small expected again = omega arith

pub copies_are_accepted_once : CopiesAreAcceptedOnce
copies_are_accepted_once w zero ns s t [] small run = omega arith
copies_are_accepted_once w zero ns s t (v ∷ verdicts) small run = absurd run
copies_are_accepted_once w (suc copies) ns s t [] small run = absurd run
copies_are_accepted_once w (suc copies) ns s t (Accept ∷ verdicts) small run =
    let moved : run.0.vr ≡ (s.vr + 1) % 256 = ap (λ u. u.vr) run.1.2 in
    let later = none_accepted w copies ns run.0 t verdicts (λ e. passed ns s.vr small run.1.1 (ap (λ vr. distance ns vr) (sym moved) ∙ e)) run.2 in
    let one : count_by is_accept (Accept ∷ verdicts) ≡ 1 + count_by is_accept verdicts = sum_by-cons _ Accept verdicts in
    omega (arith, one, later)
copies_are_accepted_once w (suc copies) ns s t (Early ∷ verdicts) small run = copies_are_accepted_once w copies ns run.0 t verdicts (rw run.1.2 small) run.2
copies_are_accepted_once w (suc copies) ns s t (Late ∷ verdicts) small run = copies_are_accepted_once w copies ns run.0 t verdicts (rw run.1.2 small) run.2
copies_are_accepted_once w (suc copies) ns s t (Outside ∷ verdicts) small run = copies_are_accepted_once w copies ns run.0 t verdicts (rw run.1.2 small) run.2
copies_are_accepted_once w (suc copies) ns s t (Refused ∷ verdicts) small run = copies_are_accepted_once w copies ns run.0 t verdicts (rw run.1.1 small) run.2
copies_are_accepted_once w (suc copies) ns s t (Command ∷ verdicts) small run = absurd run.1

-- an event other than Unlock leaves the lockout state as it is
lockout_stays : (w : ℕ) (s t : FarmState) (event : FarmEvent) (verdict : Verdict) → s.lockout ≡ true → IsStep w s event verdict t
    → (event ≡ Unlock) ⊎ (t.lockout ≡ true)
lockout_stays w s t event verdict locked step = grind (arith, common_steps, step)

pub lockout_lasts_until_unlock : LockoutLastsUntilUnlock
lockout_lasts_until_unlock w s t [] [] locked run ended = absurd (cc)
lockout_lasts_until_unlock w s t [] (v ∷ verdicts) locked run ended = absurd run
lockout_lasts_until_unlock w s t (e ∷ events) [] locked run ended = absurd run
lockout_lasts_until_unlock w s t (e ∷ events) (v ∷ verdicts) locked run ended =
    elim (lockout_stays w s run.0 e v locked run.1) [
      | inl is ↦ (0, omega arith, is)
      | inr still ↦ Contains-append_right (e ∷ []) events Unlock (lockout_lasts_until_unlock w run.0 t events verdicts still run.2 ended)
    ]
