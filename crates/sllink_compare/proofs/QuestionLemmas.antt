-- Places that pass a test.
use Rattle.std.proofs.Common.{◌≡◌, ℕ, zero, suc, ◌+◌, ◌<◌, ◌≤◌, Bool, true, false, ◌||◌, refl, arith}
use Rattle.std.specs.Prelude.{nat_lt}
use Rattle.std.specs.List.{list_any, range_with_len}

or_true : (b : Bool) → (b || true) ≡ true
or_true true = refl
or_true false = refl

-- one of the places from a on passes the test
pub some_place : (test : ℕ → Bool) (a n place : ℕ) → a ≤ place → place < a + n → test place ≡ true → list_any test (range_with_len a n) ≡ true
some_place test a zero place from to passes = absurd (omega (arith, from, to))
some_place test a (suc n) place from to passes = go (λ is. some_place test (a + 1) n place (grind (arith, is)) (omega (arith, to)) passes) (nat_lt a place) refl
  where
    go : (nat_lt a place ≡ true → list_any test (range_with_len (a + 1) n) ≡ true) → (later : Bool) → nat_lt a place ≡ later
        → (test a || list_any test (range_with_len (a + 1) n)) ≡ true
    go rest true is = rw (rest is) (or_true (test a))
    go rest false is = let here : a ≡ place = grind (arith, is, from) in rw (here, passes) refl

-- where none does, and not the next place, none of one place more does
pub no_place : (test : ℕ → Bool) (a n place : ℕ) → place ≡ a + n → list_any test (range_with_len a n) ≡ false → test place ≡ false
    → list_any test (range_with_len a (suc n)) ≡ false
no_place test a zero place is none fails = let here : a ≡ place = omega (arith, is) in rw (here, fails) refl
no_place test a (suc n) place is none fails = go (λ others. no_place test (a + 1) n place (omega (arith, is)) others fails) (test a) none
  where
    go : (list_any test (range_with_len (a + 1) n) ≡ false → list_any test (range_with_len (a + 1) (suc n)) ≡ false) → (first : Bool)
        → (first || list_any test (range_with_len (a + 1) n)) ≡ false → (first || list_any test (range_with_len (a + 1) (suc n))) ≡ false
    go rest true none = none
    go rest false none = rest none
