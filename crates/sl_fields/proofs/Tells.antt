-- Tests and the properties that they decide.
use Rattle.std.proofs.Common.{◌≡◌, ◌≢◌, ℕ, suc, ◌<◌, ◌==◌, nat_lt, leb, Bool, true, false, not, ◌&&◌, inl, inr, refl, ◌∙◌, arith}
use Rattle.std.proofs.lemmas.Bool.Decides.{eqb_tells, leb_tells}

-- the test is true exactly where the property holds
abbrev pub Tells : Bool → Type 0 → Type 0
Tells true A = A
Tells false A = A → ⊥

pub tells_both : (a b : Bool) → Tells (a && not b) ((a ≡ true) × (b ≡ false))
tells_both true false = (refl, refl)
tells_both true true = λ p. cc
tells_both false b = λ p. cc

pub tells_other : (a b : ℕ) → Tells (not (a == b)) (a ≢ b)
tells_other a b =
    elim (eqb_tells a b) [
      | inl (e, same) ↦ rw e (λ (other : a ≢ b). other same)
      | inr (e, other) ↦ rw e other
    ]

pub tells_less : (a b : ℕ) → Tells (nat_lt a b) (a < b)
tells_less a b =
    elim (leb_tells (suc a) b) [
      | inl (e, less) ↦ rw (less_is ∙ e) (omega arith)
      | inr (e, other) ↦ rw (less_is ∙ e) (λ (less : a < b). omega arith)
    ]
  where
    less_is : nat_lt a b ≡ leb (suc a) b
    less_is = refl
