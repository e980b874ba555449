-- The numbers at which flags are set.
use Rattle.std.proofs.Common.{◌≡◌, ℕ, zero, suc, ◌+◌, ◌<◌, ◌≤◌, ◌==◌, nat_lt, Bool, true, false, ◌||◌, if◌then◌else◌, List, [], ◌∷◌, length, slice_index_or, slice_set, refl, sym, ap, ◌∙◌, arith}
use Rattle.std.proofs.lemmas.Bool.{eq-eqb, ne_eqb, eqb-true, eqb-false, lt-ltb, le-ltb, ltb-true, ltb-false}
use Rattle.sl_tcframe.specs.VcSet.{AreRising, has_vc, with_vc}
use Rattle.sl_tcframe.specs.VcSetBack.{none_below}
use Rattle.sl_tcframe.specs.VcSetModel.{numbers_from}

-- a number is in the set exactly where its flag is set
pub has_flag : (first : ℕ) (flags : List Bool) (k vc : ℕ) → vc ≡ first + k → has_vc (numbers_from first flags) vc ≡ slice_index_or flags k false
has_flag first [] k vc is = refl
has_flag first (true ∷ flags) zero vc is = rw (eq-eqb vc first (omega arith)) refl
has_flag first (false ∷ flags) zero vc is = none_below (suc first) flags vc (omega arith)
has_flag first (true ∷ flags) (suc k) vc is = rw (ne_eqb vc first (λ e. omega arith)) (has_flag (suc first) flags k vc (omega arith))
has_flag first (false ∷ flags) (suc k) vc is = has_flag (suc first) flags k vc (omega arith)

rising_lower : (least : ℕ) (vcs : List ℕ) → AreRising (suc least) vcs → AreRising least vcs
rising_lower least [] rising = tt
rising_lower least (vc ∷ vcs) rising = (omega (arith, rising.0), rising.1, rising.2)

-- the numbers rise strictly up to 63, where there are no more than 64 flags
pub numbers_rise : (first : ℕ) (flags : List Bool) → first + length flags ≤ 64 → AreRising first (numbers_from first flags)
numbers_rise first [] few = tt
numbers_rise first (true ∷ flags) few = (omega arith, omega arith, numbers_rise (suc first) flags (omega arith))
numbers_rise first (false ∷ flags) few = rising_lower first (numbers_from (suc first) flags) (numbers_rise (suc first) flags (omega arith))

-- a number below the first one is added in front
pub with_below : (first : ℕ) (flags : List Bool) (vc : ℕ) → vc < first → with_vc (numbers_from first flags) vc ≡ vc ∷ numbers_from first flags
with_below first [] vc low = refl
with_below first (true ∷ flags) vc low = rw (lt-ltb vc first low) refl
with_below first (false ∷ flags) vc low = with_below (suc first) flags vc (omega arith)

-- setting a flag adds its number
pub with_flag : (first : ℕ) (flags : List Bool) (k vc : ℕ) → vc ≡ first + k → k < length flags → numbers_from first (slice_set flags k true) ≡ with_vc (numbers_from first flags) vc
with_flag first [] k vc is inside = absurd (omega arith)
with_flag first (true ∷ flags) zero vc is inside = rw (le-ltb vc first (omega arith), eq-eqb vc first (omega arith)) refl
with_flag first (false ∷ flags) zero vc is inside = sym (with_below (suc first) flags vc (omega arith) ∙ ap (λ v. v ∷ numbers_from (suc first) flags) (omega arith))
with_flag first (true ∷ flags) (suc k) vc is inside = rw (le-ltb vc first (omega arith), ne_eqb vc first (λ e. omega arith)) (ap (λ l. first ∷ l) (with_flag (suc first) flags k vc (omega arith) (omega arith)))
with_flag first (false ∷ flags) (suc k) vc is inside = with_flag (suc first) flags k vc (omega arith) (omega arith)

-- a number below those that rise is added in front of them
pub with_first : (least : ℕ) (vcs : List ℕ) (vc : ℕ) → AreRising least vcs → vc < least → with_vc vcs vc ≡ vc ∷ vcs
with_first least [] vc rising low = refl
with_first least (v ∷ vcs) vc rising low = rw (lt-ltb vc v (omega (arith, rising.0))) refl

or_swapped : (a b c : Bool) → (a || (b || c)) ≡ (b || (a || c))
or_swapped true true c = refl
or_swapped true false c = refl
or_swapped false b c = refl

or_twice : (a c : Bool) → (a || c) ≡ (a || (a || c))
or_twice true c = refl
or_twice false c = refl

-- a number that is added is in the set, and nothing else changes
pub added : (vcs : List ℕ) (vc v : ℕ) → has_vc (with_vc vcs vc) v ≡ (v == vc || has_vc vcs v)
added [] vc v = refl
added (w ∷ vcs) vc v = by (nat_lt vc w) (vc == w) refl (added vcs vc v)
  where
    by : (low same : Bool) → (vc == w) ≡ same → has_vc (with_vc vcs vc) v ≡ (v == vc || has_vc vcs v) → has_vc (if low then vc ∷ w ∷ vcs else if same then w ∷ vcs else w ∷ with_vc vcs vc) v ≡ (v == vc || (v == w || has_vc vcs v))
    by true same is rest = refl
    by false true is rest = rw (eqb-true vc w is) (or_twice (v == w) (has_vc vcs v))
    by false false is rest = ap (λ b. v == w || b) rest ∙ or_swapped (v == w) (v == vc) (has_vc vcs v)

pub added_rise : (least : ℕ) (vcs : List ℕ) (vc : ℕ) → AreRising least vcs → least ≤ vc → vc ≤ 63 → AreRising least (with_vc vcs vc)
added_rise least [] vc rising low high = (low, high, tt)
added_rise least (w ∷ vcs) vc rising low high = by (nat_lt vc w) (vc == w) refl refl (added_rise (suc w) vcs vc rising.2)
  where
    by : (below same : Bool) → nat_lt vc w ≡ below → (vc == w) ≡ same → (suc w ≤ vc → vc ≤ 63 → AreRising (suc w) (with_vc vcs vc)) → AreRising least (if below then vc ∷ w ∷ vcs else if same then w ∷ vcs else w ∷ with_vc vcs vc)
    by true same lt is rest = (low, high, (ltb-true vc w lt, rising.1, rising.2))
    by false true lt is rest = rising
    by false false lt is rest = (rising.0, rising.1, rest (omega (arith, ltb-false vc w lt, eqb-false vc w is)) high)
