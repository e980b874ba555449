-- Lists: properties of each element, what a filter keeps, and one more element at the end.
use Rattle.std.proofs.Common.{◌≡◌, ℕ, zero, suc, ◌+◌, Bool, true, false, cond, List, [], ◌∷◌, ◌++◌, map, take, drop, replicate, slice_index_or, slice_set, refl, sym, ap, ◌∙◌, append-nil}
use Rattle.std.specs.List.{AllByRecursion, concat, filter, flat_map, range_with_len}
use Rattle.std.proofs.lemmas.List.{map-id}
use Rattle.std.proofs.lemmas.List.Elements.{All-append, All-drop, All-from_recursion, All-replicate, All-set, All-take, recursion_from_All}
use Rattle.std.proofs.lemmas.List.Folds.{concat-append}
use Rattle.std.proofs.lemmas.List.FromFn.{map-range_with_len_more}

-- ---- properties of each element

module _ {X : Type 0} (P : X → Type 0) where
  pub each-append : (xs ys : List X) → AllByRecursion P xs → AllByRecursion P ys → AllByRecursion P (xs ++ ys)
  each-append xs ys left right = recursion_from_All P (xs ++ ys) (All-append P xs ys (All-from_recursion P xs left) (All-from_recursion P ys right))

  pub each-take : (n : ℕ) (xs : List X) → AllByRecursion P xs → AllByRecursion P (take n xs)
  each-take n xs each = recursion_from_All P (take n xs) (All-take P n xs (All-from_recursion P xs each))

  pub each-drop : (n : ℕ) (xs : List X) → AllByRecursion P xs → AllByRecursion P (drop n xs)
  each-drop n xs each = recursion_from_All P (drop n xs) (All-drop P n xs (All-from_recursion P xs each))

  pub each-set : (xs : List X) (i : ℕ) (x : X) → P x → AllByRecursion P xs → AllByRecursion P (slice_set xs i x)
  each-set xs i x one each = recursion_from_All P (slice_set xs i x) (All-set P xs i x one (All-from_recursion P xs each))

  pub each-replicate : (n : ℕ) (x : X) → P x → AllByRecursion P (replicate n x)
  each-replicate n x one = recursion_from_All P (replicate n x) (All-replicate P n x one)

  -- the property holds of the element at an index, or of the default where the index is past the end
  pub each-at : (xs : List X) (i : ℕ) (d : X) → P d → AllByRecursion P xs → P (slice_index_or xs i d)
  each-at [] i d one each = one
  each-at (x ∷ xs) zero d one each = each.0
  each-at (x ∷ xs) (suc i) d one each = each-at xs i d one each.1

  -- the property holds of an element of the list
  pub each-among : (earlier : List X) (x : X) (later : List X) → AllByRecursion P (earlier ++ x ∷ later) → P x
  each-among [] x later each = each.0
  each-among (e ∷ earlier) x later each = each-among earlier x later each.1

  pub each-every : ((x : X) → P x) → (xs : List X) → AllByRecursion P xs
  each-every every [] = tt
  each-every every (x ∷ xs) = (every x, each-every every xs)

  pub each-flat_map : {Y : Type 0} (f : Y → List X) (ys : List Y) → AllByRecursion (λ y. AllByRecursion P (f y)) ys → AllByRecursion P (flat_map f ys)
  each-flat_map f [] each = tt
  each-flat_map f (y ∷ ys) each = each-append (f y) (flat_map f ys) each.0 (each-flat_map f ys each.1)

  pub each-map : {Y : Type 0} (f : Y → X) (ys : List Y) → AllByRecursion (λ y. P (f y)) ys → AllByRecursion P (map f ys)
  each-map f [] each = tt
  each-map f (y ∷ ys) each = (each.0, each-map f ys each.1)

module _ {X : Type 0} (P Q : X → Type 0) where
  pub each-weaker : ((x : X) → P x → Q x) → (xs : List X) → AllByRecursion P xs → AllByRecursion Q xs
  each-weaker weaker [] each = tt
  each-weaker weaker (x ∷ xs) each = (weaker x each.0, each-weaker weaker xs each.1)

  pub each-both : (R : X → Type 0) → ((x : X) → P x → Q x → R x) → (xs : List X) → AllByRecursion P xs → AllByRecursion Q xs → AllByRecursion R xs
  each-both R both [] each other = tt
  each-both R both (x ∷ xs) each other = (both x each.0 other.0, each-both R both xs each.1 other.1)

  -- the elements that pass a test have the second property, if each one with the first property that passes the test
  -- does
  pub each-filter : (test : X → Bool) → ((x : X) → test x ≡ true → P x → Q x) → (xs : List X) → AllByRecursion P xs → AllByRecursion Q (filter test xs)
  each-filter test passed [] each = tt
  each-filter test passed (x ∷ xs) each = by (test x) refl (each-filter test passed xs each.1)
    where
      by : (b : Bool) → test x ≡ b → AllByRecursion Q (filter test xs) → AllByRecursion Q (cond b (x ∷ filter test xs) (filter test xs))
      by true is rest = (passed x is each.0, rest)
      by false is rest = rest

-- ---- what a filter keeps

-- a test that each element passes keeps all elements
pub filter_all : {X : Type 0} (test : X → Bool) (xs : List X) → AllByRecursion (λ x. test x ≡ true) xs → filter test xs ≡ xs
filter_all test [] each = refl
filter_all test (x ∷ xs) each = rw (each.0, filter_all test xs each.1) refl

-- a test that no element passes keeps none
pub filter_none : {X : Type 0} (test : X → Bool) (xs : List X) → AllByRecursion (λ x. test x ≡ false) xs → filter test xs ≡ []
filter_none test [] each = refl
filter_none test (x ∷ xs) each = rw (each.0) (filter_none test xs each.1)

-- ---- one more element at the end

pub concat-push : (xs : List (List ℕ)) (x : List ℕ) → concat (xs ++ x ∷ []) ≡ concat xs ++ x
concat-push xs x = concat-append xs (x ∷ []) ∙ ap (λ l. concat xs ++ l) (append-nil x)

pub range-push : (from n to : ℕ) → from + n ≡ to → range_with_len from (n + 1) ≡ range_with_len from n ++ to ∷ []
range-push from n to is =
    sym (map-id (range_with_len from (n + 1))) ∙ map-range_with_len_more (λ k. k) from n to is ∙ ap (λ l. l ++ to ∷ []) (map-id (range_with_len from n))
