-- A proof that has to stand in `specs`. The Model of `VcSet` says that its flags come back from the
-- numbers at which they are set, and `inverse_ok` proves this by `flags_back`. A Model cites only
-- the `specs` of its own crate, so what `inverse_ok` needs can't stand in `proofs`.
use Rattle.std.specs.Prelude.{◌≡◌, ℕ, zero, suc, ◌<◌, ◌==◌, Bool, true, false, ◌||◌, List, [], ◌∷◌, length}
use Rattle.std.proofs.Common.{refl, sym, ap, subst, ◌∙◌}
use Rattle.std.proofs.Math.Nat.{lt_irrefl, lt-suc_self, lt_trans}
use Rattle.std.proofs.lemmas.Bool.{eq-eqb, ne_eqb}
use Rattle.sl_tcframe.specs.VcSet.{has_vc}
use Rattle.sl_tcframe.specs.VcSetModel.{numbers_from, flags_from}

-- a number isn't equal to a greater one, `first`
other : (vc first : ℕ) → vc < first → (vc == first) ≡ false
other vc first low = ne_eqb vc first (λ e. lt_irrefl first (subst (λ n. n < first) e low))

-- a number isn't equal to a smaller one, `first`
other_above : (vc first : ℕ) → first < vc → (vc == first) ≡ false
other_above vc first high = ne_eqb vc first (λ e. lt_irrefl first (subst (λ n. first < n) e high))

-- a number below the first one isn't among the numbers of flags
pub none_below : (first : ℕ) (flags : List Bool) (vc : ℕ) → vc < first → has_vc (numbers_from first flags) vc ≡ false
none_below first [] vc low = refl
none_below first (true ∷ flags) vc low =
    ap (λ same. same || has_vc (numbers_from (suc first) flags) vc) (other vc first low)
    ∙ none_below (suc first) flags vc (lt_trans low (lt-suc_self first))
none_below first (false ∷ flags) vc low = none_below (suc first) flags vc (lt_trans low (lt-suc_self first))

-- a number below the first one sets none of these flags
passed : (count first : ℕ) (vc : ℕ) (vcs : List ℕ) → vc < first
    → flags_from count first (vc ∷ vcs) ≡ flags_from count first vcs
unfolding flags_from
passed zero first vc vcs low = refl
passed (suc count) first vc vcs low =
    ap (λ same. (same || has_vc vcs first) ∷ flags_from count (suc first) (vc ∷ vcs)) (other_above first vc low)
    ∙ ap (λ flags. has_vc vcs first ∷ flags) (passed count (suc first) vc vcs (lt_trans low (lt-suc_self first)))

-- flags come back from the numbers at which they are set
flags_return : (first : ℕ) (flags : List Bool) → flags_from (length flags) first (numbers_from first flags) ≡ flags
unfolding flags_from
flags_return first [] = refl
flags_return first (true ∷ flags) =
    ap (λ same. (same || has_vc (numbers_from (suc first) flags) first)
    ∷ flags_from (length flags) (suc first) (first ∷ numbers_from (suc first) flags)) (eq-eqb first first refl)
    ∙ ap (λ l. true ∷ l)
    (passed (length flags) (suc first) first (numbers_from (suc first) flags) (lt-suc_self first)
    ∙ flags_return (suc first) flags)
flags_return first (false ∷ flags) =
    ap (λ has. has ∷ flags_from (length flags) (suc first) (numbers_from (suc first) flags))
    (none_below (suc first) flags first (lt-suc_self first))
    ∙ ap (λ l. false ∷ l) (flags_return (suc first) flags)

-- the 64 flags of a set come back from its numbers
pub flags_back : (flags : List Bool) → length flags ≡ 64 → flags_from 64 0 (numbers_from 0 flags) ≡ flags
flags_back flags many = ap (λ n. flags_from n 0 (numbers_from 0 flags)) (sym many) ∙ flags_return 0 flags
