-- Lists for the channels of a kind: what they are together, and how many items they have.
use Rattle.std.proofs.Common.{◌≡◌, ◌≢◌, ℕ, zero, suc, ◌+◌, ◌<◌, ◌≤◌, get_or, zero-add, length-append, List, [], ◌∷◌, length, map, refl, ◌∙◌, ap, arith}
use Rattle.std.specs.Prelude.{flat_map}
use Rattle.std.specs.List.{range_with_len}
use Rattle.std.proofs.lemmas.Bool.Decides.{eqb_tells}
use Rattle.std.proofs.lemmas.List.{nil_from_length}
use Rattle.std.proofs.lemmas.List.Concat.{length-flat_map}
use Rattle.std.proofs.lemmas.List.FromFn.{get_or-range_with_len, length-range_with_len}
use Rattle.std.proofs.lemmas.List.Sums.{get_or-le-sum_by}
use Rattle.sl_engine.specs.Kind.Delivery.{count_of}

-- ---- the lists

pub map_range : {X : Type 0} (f h : ℕ → X) (from n : ℕ) → ((i : ℕ) → i < from + n → f i ≡ h i) → map f (range_with_len from n) ≡ map h (range_with_len from n)
map_range f h from zero same = refl
map_range f h from (suc n) same = rw (same from (omega arith), map_range f h (from + 1) n (λ i below. same i (omega arith))) refl

-- ---- their items

abbrev items_from : {X : Type 0} → (ℕ → List X) → ℕ → ℕ → ℕ
items_from f from n = count_of (map f (range_with_len from n))

items_same : {X : Type 0} (f h : ℕ → List X) (from n : ℕ) → ((i : ℕ) → from ≤ i → length (h i) ≡ length (f i))
    → items_from h from n ≡ items_from f from n
items_same f h from zero same = refl
items_same f h from (suc n) same = omega (arith, same from (omega arith), items_same f h (from + 1) n (λ i above. same i (omega (arith, above))))

items_one : {X : Type 0} (f h : ℕ → List X) (from n at : ℕ) → from ≤ at → at < from + n → ((i : ℕ) → i ≢ at → length (h i) ≡ length (f i))
    → items_from h from n + length (f at) ≡ items_from f from n + length (h at)
items_one f h from zero at above below others = absurd (omega arith)
items_one f h from (suc n) at above below others = grind (arith, eqb_tells at from, items_same f h (from + 1) n, items_one f h (from + 1) n at)

-- where no list has any
pub no_items : {X : Type 0} (f : ℕ → List X) (channels : List ℕ) → ((i : ℕ) → f i ≡ []) → count_of (map f channels) ≡ 0
no_items f [] none = refl
no_items f (channel ∷ channels) none = omega (arith, ap length (none channel), no_items f channels none)

pub flat_count : {X : Type 0} (f : ℕ → List X) (channels : List ℕ) → length (flat_map f channels) ≡ count_of (map f channels)
flat_count f [] = refl
flat_count f (channel ∷ channels) = rw (length-append, flat_count f channels) refl

module _ {X : Type 0} (limit : ℕ) (channels : List ℕ) (all : channels ≡ range_with_len 0 limit) where
  -- where one channel alone has other items, they are as many more or fewer
  pub items_change : (f h : ℕ → List X) (at : ℕ) → at < limit → ((i : ℕ) → i ≢ at → length (h i) ≡ length (f i))
      → count_of (map h channels) + length (f at) ≡ count_of (map f channels) + length (h at)
  items_change f h at inside others = rw all (items_one f h 0 limit at (omega arith) (omega (arith, inside)) others)

  -- where there are no items each list is empty
  pub none_of : (f : ℕ → List X) → count_of (map f channels) ≡ 0 → (i : ℕ) → i < limit → f i ≡ []
  none_of f none i below =
      let at : get_or channels i 0 ≡ i = rw all (get_or-range_with_len 0 limit i 0 below ∙ zero-add i) in
      let most = rw at at (get_or-le-sum_by (λ c. length (f c)) channels i 0 (omega (arith, ap length all, length-range_with_len 0 limit, below))) in
      nil_from_length (f i) (omega (arith, none, length-flat_map (λ c. f c) channels, flat_count f channels, most))
