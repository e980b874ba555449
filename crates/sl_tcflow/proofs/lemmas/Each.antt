-- Properties of each element of a list, and lists that a property filters.
use Rattle.std.proofs.Common.{◌≡◌, ◌≢◌, ℕ, zero, suc, ◌+◌, ◌<◌, ◌≤◌, ◌==◌, Bool, true, false, List, [], ◌∷◌, ◌++◌, length, map, flat_map, filter, inl, inr, refl, sym, ◌∙◌, ap, arith, append-nil, eq-eqb, ne_eqb}
use Rattle.std.specs.List.{AllByRecursion, range_with_len}
use Rattle.std.proofs.lemmas.Bool.Decides.{eqb_tells}
use Rattle.std.proofs.lemmas.List.Elements.{filter-append}
use Rattle.sl_fields.proofs.ListLemmas.{each-append, each-weaker, filter_all, filter_none}

pub each-flat_map_range : {X : Type 0} (P : X → Type 0) (f : ℕ → List X) (from n : ℕ) → ((i : ℕ) → i < from + n → AllByRecursion P (f i)) → AllByRecursion P (flat_map f (range_with_len from n))
each-flat_map_range P f from zero each = tt
each-flat_map_range P f from (suc n) each = grind (arith, each-append, each-flat_map_range P f (from + 1) n (λ i below. each i (omega arith)))

-- the elements with a key, in lists by rising key with one key each
module _ {X : Type 0} (key : X → ℕ) (f : ℕ → List X) (each : (i : ℕ) → AllByRecursion (λ x. key x ≡ i) (f i)) (k : ℕ) where
  abbrev has_key : X → Bool
  has_key x = key x == k

  key_all : (i : ℕ) → i ≡ k → filter has_key (f i) ≡ f i
  key_all i same = filter_all has_key (f i) (each-weaker (λ x. key x ≡ i) (λ x. has_key x ≡ true) (λ x is. eq-eqb (key x) k (is ∙ same)) (f i) (each i))

  key_none : (i : ℕ) → i ≢ k → filter has_key (f i) ≡ []
  key_none i other = filter_none has_key (f i) (each-weaker (λ x. key x ≡ i) (λ x. has_key x ≡ false) (λ x is. ne_eqb (key x) k (λ e. other (sym is ∙ e))) (f i) (each i))

  after_key : (from n : ℕ) → k < from → filter has_key (flat_map f (range_with_len from n)) ≡ []
  after_key from zero after = refl
  after_key from (suc n) after = grind (arith, filter-append, key_none, after_key (from + 1) n (omega arith))

  pub own_part : (from n : ℕ) → from ≤ k → k < from + n → filter has_key (flat_map f (range_with_len from n)) ≡ f k
  own_part from zero above below = absurd (omega arith)
  own_part from (suc n) above below =
      let later = flat_map f (range_with_len (from + 1) n) in
      filter-append has_key (f from) later
      ∙ elim (eqb_tells from k) [
        | inl (test, same) ↦
            ap (λ l. l ++ filter has_key later) (key_all from same) ∙ ap (λ l. f from ++ l) (after_key (from + 1) n (omega (arith, same)))
            ∙ append-nil (f from) ∙ ap f same
        | inr (test, other) ↦
            ap (λ l. l ++ filter has_key later) (key_none from other) ∙ own_part (from + 1) n (omega (arith, other, above)) (omega arith)
      ]

-- lists whose lengths are the sizes of the elements that they are made from
pub short_all : {X : Type 0} (f : X → List ℕ) (size : X → ℕ) → ((x : X) → length (f x) ≡ size x) → (n : ℕ) (xs : List X)
    → AllByRecursion (λ x. size x ≤ n) xs → AllByRecursion (λ l. length l ≤ n) (map f xs)
short_all f size same n [] each = tt
short_all f size same n (x ∷ xs) each = (let size_is = same x in let low = each.0 in omega (arith, size_is, low), short_all f size same n xs each.1)

pub all_short : {X : Type 0} (f : X → List ℕ) (size : X → ℕ) → ((x : X) → length (f x) ≡ size x) → (n : ℕ) (xs : List X)
    → AllByRecursion (λ l. length l ≤ n) (map f xs) → AllByRecursion (λ x. size x ≤ n) xs
all_short f size same n [] each = tt
all_short f size same n (x ∷ xs) each = (let size_is = same x in let low = each.0 in omega (arith, size_is, low), all_short f size same n xs each.1)
