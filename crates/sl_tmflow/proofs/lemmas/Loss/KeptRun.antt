-- Numbers that rise, and the deliveries whose frames were all kept.
use Rattle.std.proofs.Common.{◌≡◌, ℕ, zero, suc, ◌+◌, ◌-◌, ◌<◌, ◌≤◌, List, [], ◌∷◌, length, inl, inr, refl, sym, ap, subst, arith, length-append}
use Rattle.std.proofs.lemmas.Bool.{cases_lt}
use Rattle.sl_tmflow.specs.Among.{IsAmong}
use Rattle.sl_tmflow.specs.Delivery.{Delivery}
use Rattle.sl_tmflow.specs.Loss.{FewAreLost, HasNumber, IsSameDelivery, KeptRunsAreLeft, RiseFrom, RunsAreKept}
use Rattle.sl_tmflow.proofs.lemmas.Places.{among-right}
use Rattle.sl_tmflow.proofs.lemmas.Delivery.Listed.{delivery_with}
use Rattle.sl_tmflow.proofs.lemmas.Loss.Local.{each_is_left, number_from}
use Rattle.sl_tmflow.proofs.lemmas.Loss.KeptFrames.{at_least, near_from}

-- ---- elements and their numbers

module _ {X : Type 0} where
  pub number_is_there : (xs : List X) (number : ℕ) → number < length xs → (x : X) × HasNumber xs number x
  number_is_there [] number less = absurd (omega arith)
  number_is_there (x ∷ xs) zero less = (
    x,
    record { before = []; after = xs; in_order = refl; counted = refl },
  )
  number_is_there (x ∷ xs) (suc number) less =
      let (y, at) = number_is_there xs number (omega arith) in (
        y,
        record { before = x ∷ at.before; after = at.after; in_order = ap (λ l. x ∷ l) at.in_order; counted = omega (arith, at.counted) },
      )

  pub number_among : (xs : List X) (number : ℕ) (x : X) → HasNumber xs number x → IsAmong x xs
  number_among xs number x at = subst (IsAmong x) (sym at.in_order) (among-right x at.before (x ∷ at.after) (inl refl))

  pub among_number : (x : X) (xs : List X) → IsAmong x xs → (number : ℕ) × HasNumber xs number x
  among_number x [] there = absurd there
  among_number x (y ∷ ys) (inl here) = (
    0,
    record { before = []; after = ys; in_order = ap (λ z. z ∷ ys) (sym here); counted = refl },
  )
  among_number x (y ∷ ys) (inr there) =
      let (number, at) = among_number x ys there in (
        number + 1,
        record { before = y ∷ at.before; after = at.after; in_order = ap (λ l. y ∷ l) at.in_order; counted = omega (arith, at.counted) },
      )

-- rising numbers are at least as far apart as their places
pub apart : (numbers : List ℕ) (a b x y : ℕ) → FewAreLost numbers → HasNumber numbers a x → HasNumber numbers b y → a ≤ b → x + (b - a) ≤ y
apart numbers a b x y near at other fewer =
    let rise : RiseFrom x at.after = near_from at.before x at.after (subst FewAreLost at.in_order near) in
    let ending = number_from numbers a b x y at other fewer in
    let low = at_least x at.after ending.before y ending.after rise ending.in_order in
    omega (arith, ending.counted)

-- ---- deliveries

-- all numbers between two are there, where there are as many
pub runs_are_kept : RunsAreKept
runs_are_kept numbers d whole near same number above below =
    elim (cases_lt d.ending d.frame) [
      | inl less ↦
          let far = apart numbers d.ending d.frame whole.ending whole.frame near same.ending same.frame (omega arith) in
          absurd (omega arith)
      | inr fewer ↦ between fewer
    ]
  where
    between : d.frame ≤ d.ending → IsAmong number numbers
    between fewer =
        let index : ℕ = d.frame + (number - whole.frame) in
        let within : index ≤ d.ending = omega (arith, same.none_lost) in
        let (found, at) = number_is_there numbers index
        (omega (arith, same.ending.counted, ap length same.ending.in_order, length-append same.ending.before (whole.ending ∷ same.ending.after))) in
        let low = apart numbers d.frame index whole.frame found near same.frame at (omega arith) in
        let high = apart numbers index d.ending found whole.ending near at same.ending within in
        let is : found ≡ number = omega (arith, same.none_lost) in
        subst (λ n. IsAmong n numbers) is (number_among numbers index found at)

-- the frames of a run that were all kept, one after another
run_numbers : (numbers : List ℕ) (first frame passed : ℕ) → FewAreLost numbers → HasNumber numbers first frame
    → ((number : ℕ) → frame ≤ number → number ≤ frame + passed → IsAmong number numbers) → HasNumber numbers (first + passed) (frame + passed)
run_numbers numbers first frame zero near at all =
    let one : first ≡ first + 0 = omega arith in
    let other : frame ≡ frame + 0 = omega arith in
    subst (λ n. HasNumber numbers n (frame + 0)) one (subst (HasNumber numbers first) other at)
run_numbers numbers first frame (suc passed) near at all =
    let before = run_numbers numbers first frame passed near at (λ number above below. all number above (omega arith)) in
    let (index, next) = among_number (frame + suc passed) numbers (all (frame + suc passed) (omega arith) (omega arith)) in
    let is : index ≡ first + suc passed =
    elim (cases_lt (first + passed) index) [
      | inl more ↦
          let far = apart numbers (first + passed) index (frame + passed) (frame + suc passed) near before next (omega arith) in
          omega arith
      | inr fewer ↦
          let far = apart numbers index (first + passed) (frame + suc passed) (frame + passed) near next before fewer in
          absurd (omega arith)
    ] in
    subst (λ n. HasNumber numbers n (frame + suc passed)) is next

pub kept_runs_are_left : KeptRunsAreLeft
kept_runs_are_left channel numbers kept whole left is_whole all =
    let passed : ℕ = length is_whole.run in
    let (first, at) = among_number whole.frame numbers (all whole.frame (omega arith) (omega (arith, is_whole.ending))) in
    let ending = run_numbers numbers first whole.frame passed left.few_lost at (λ number above below. all number above (omega (arith, is_whole.ending))) in
    let d : Delivery = delivery_with first whole.start (first + passed) whole.packet in
    let same : IsSameDelivery numbers d whole =
    record {
      frame = at;
      ending = subst (HasNumber numbers (first + passed)) (sym is_whole.ending) ending;
      none_lost = omega (arith, is_whole.ending);
      start = refl;
      packet = refl;
    } in
    (d, each_is_left channel numbers kept d whole left is_whole same, same)
