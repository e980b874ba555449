-- The parameters that C gives, made into those of a link.
use Rattle.std.proofs.Common.{◌≡◌, ℕ, ◌+◌, ◌<◌, Bool, true, false, List, [], ◌∷◌, ◌++◌, length, take, drop, get_or, set, sym, ap, ◌∙◌, arith, add-one}
use Rattle.std.proofs.lemmas.List.{drop_all, drop_more, length-set, take_all, take_more, take_more_set}
use Rattle.sl_tcframe.specs.VcSet.{with_vc}
use Rattle.sl_tcframe.specs.VcSetModel.{numbers_from}
use Rattle.sl_tcframe.proofs.VcSetLemmas.{with_below}

-- ---- virtual channels whose flag is set

-- the flags from this one on are set at these numbers
abbrev pub AreSetFrom : ℕ → List Bool → List ℕ → Type 0
AreSetFrom first flags vcs = vcs ≡ numbers_from first (drop first flags)

pub none_set : (flags : List Bool) (vcs : List ℕ) → length flags ≡ 64 → vcs ≡ [] → AreSetFrom 64 flags vcs
none_set flags vcs many none = none ∙ ap (numbers_from 64) (sym (drop_all 64 flags (omega arith)))

module _ (flags : List Bool) (vcs vcs' : List ℕ) (n m vc : ℕ) (d : Bool) where
  abbrev numbers_at : ℕ → List ℕ
  numbers_at first = numbers_from first (drop first flags)

  -- one flag more, from the end on
  pub set_here : n ≡ vc + 1 → m ≡ vc → vc < length flags → get_or flags vc d ≡ true → vcs' ≡ with_vc vcs vc → AreSetFrom n flags vcs → AreSetFrom m flags vcs'
  set_here after at inside is_set added are =
      added
      ∙ ap (λ l. with_vc l vc) (are ∙ ap numbers_at after)
      ∙ with_below (vc + 1) (drop (vc + 1) flags) vc (omega arith)
      ∙ ap (λ n. vc ∷ numbers_from n (drop (vc + 1) flags)) (add-one vc)
      ∙ sym (ap (numbers_from vc) (drop_more flags vc d inside ∙ ap (λ b. b ∷ drop (vc + 1) flags) is_set))
      ∙ sym (ap numbers_at at)

  pub not_set_here : n ≡ vc + 1 → m ≡ vc → vc < length flags → get_or flags vc d ≡ false → vcs' ≡ vcs → AreSetFrom n flags vcs → AreSetFrom m flags vcs'
  not_set_here after at inside isnt_set same are =
      same
      ∙ are
      ∙ ap numbers_at after
      ∙ ap (λ n. numbers_from n (drop (vc + 1) flags)) (add-one vc)
      ∙ sym (ap (numbers_from vc) (drop_more flags vc d inside ∙ ap (λ b. b ∷ drop (vc + 1) flags) isnt_set))
      ∙ sym (ap numbers_at at)

-- ---- initial V(R)

-- there are 64 initial V(R), and the first `vc` are those that C gives
pub record AreTaken (vrs starts : List ℕ) (vc : ℕ) : Type 0 where
  pub size : length starts ≡ 64
  pub taken : take vc starts ≡ take vc vrs

pub taken_more : (vrs starts : List ℕ) (vc vr d : ℕ) → length vrs ≡ 64 → vc < 64 → vr ≡ get_or vrs vc d → AreTaken vrs starts vc → AreTaken vrs (set starts vc vr) (vc + 1)
taken_more vrs starts vc vr d many inside is t = record {
  size = length-set starts vc vr ∙ t.size;
  taken = take_more_set starts vc vr (omega (arith, t.size)) ∙ ap (λ l. l ++ vr ∷ []) t.taken ∙ ap (λ x. take vc vrs ++ x ∷ []) is ∙ sym (take_more vrs vc d (omega arith));
}

pub all_taken : (vrs starts : List ℕ) → length vrs ≡ 64 → AreTaken vrs starts 64 → starts ≡ vrs
all_taken vrs starts many t = sym (take_all 64 starts (omega (arith, t.size))) ∙ t.taken ∙ take_all 64 vrs (omega arith)
