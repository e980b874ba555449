-- Lists whose elements have numbers that rise.
use Rattle.std.proofs.Common.{◌≡◌, ◌⊎◌, ℕ, zero, suc, ◌<◌, List, [], ◌∷◌, length, map, get_or, eqb, inl, inr, refl, sym, ◌∙◌, ap, subst, eq-eqb, ne_eqb, arith}
use Rattle.std.specs.List.{Contains, IsDistinct}
use Rattle.std.specs.List.Sorted.{IsNonDecreasing, IsNonDecreasingBy, IsPermutation, IsStrictlyIncreasing, IsStrictlySortedBy}
use Rattle.std.specs.Ordering.{nat_cmp}
use Rattle.std.proofs.lemmas.Bool.{cases_eq}
use Rattle.std.proofs.lemmas.List.{get_or-map, length-map}
use Rattle.std.proofs.lemmas.List.Elements.{Contains-append_cases, Contains-append_right}
use Rattle.std.proofs.lemmas.List.Sorted.{Contains-permutation, IsPermutation-map, IsPermutation-sym}
use Rattle.std.proofs.lemmas.Map.Keys.{IsDistinct-IsPermutation, IsDistinct-from_apart, IsStrictlyIncreasing-from_distinct, below_from_sorted, sorted_from_strictly_increasing, sorted_tail}
use Rattle.sl_pair.proofs.ListLemmas.{first_is}

module _ {X : Type 0} (n : X → ℕ) where
  -- the numbers rise
  abbrev pub Rise : List X → Type 0
  Rise xs = IsStrictlySortedBy nat_cmp (map n xs)

  -- the first number is the least
  least : (x y : X) (xs : List X) → Rise (x ∷ xs) → Contains xs y → n x < n y
  least x y xs rise (k, inside, is) =
      let low : zero < suc k = omega arith in
      let high : suc k < length (map n (x ∷ xs)) = omega (arith, length-map (x ∷ xs) n) in
      let at : get_or (map n xs) k 0 ≡ n y = get_or-map n xs k y 0 inside ∙ ap n is in
      subst (λ m. n x < m) at (below_from_sorted (map n (x ∷ xs)) zero (suc k) 0 rise low high)

  first_or_later : (x y : X) (ys : List X) → Contains (y ∷ ys) x → (y ≡ x) ⊎ Contains ys x
  first_or_later x y ys there = elim (Contains-append_cases (y ∷ []) ys x there) [
    | inl here ↦ inl (first_is y x here)
    | inr later ↦ inr later
  ]

  here : (x : X) (xs : List X) → Contains (x ∷ xs) x
  here x xs = (zero, omega arith, refl)

  later : (x y : X) (xs : List X) → Contains xs y → Contains (x ∷ xs) y
  later x y xs there = Contains-append_right (x ∷ []) xs y there

  -- two that rise and have the same elements begin with the same one
  same_first : (x y : X) (xs ys : List X) → Rise (x ∷ xs) → Rise (y ∷ ys)
      → Contains (y ∷ ys) x → Contains (x ∷ xs) y → x ≡ y
  same_first x y xs ys rise rise' there back = elim (first_or_later x y ys there) [
    | inl same ↦ sym same
    | inr above ↦ elim (first_or_later y x xs back) [
      | inl same ↦ same
      | inr also ↦ absurd (omega (arith, least y x ys rise' above, least x y xs rise also))
    ]
  ]

  -- the elements after the first
  members_after : (x y : X) (xs ys : List X) → Rise (x ∷ xs) → x ≡ y → ((z : X) → Contains (x ∷ xs) z → Contains (y ∷ ys) z)
      → (z : X) → Contains xs z → Contains ys z
  members_after x y xs ys rise same all z there = elim (first_or_later z y ys (all z (later x z xs there))) [
    | inl is ↦ let equal : n x ≡ n z = ap n (same ∙ is) in absurd (omega (arith, least x z xs rise there))
    | inr above ↦ above
  ]

  -- two that rise and have the same elements are the same
  pub same_elements : (xs ys : List X) → Rise xs → Rise ys → ((z : X) → Contains xs z → Contains ys z)
      → ((z : X) → Contains ys z → Contains xs z) → xs ≡ ys
  same_elements [] [] rise rise' there back = refl
  same_elements [] (y ∷ ys) rise rise' there back = let (k, inside, is) = back y (here y ys) in absurd (omega arith)
  same_elements (x ∷ xs) [] rise rise' there back = let (k, inside, is) = there x (here x xs) in absurd (omega arith)
  same_elements (x ∷ xs) (y ∷ ys) rise rise' there back =
      let same = same_first x y xs ys rise rise' (there x (here x xs)) (back y (here y ys)) in
      ap (λ z. z ∷ xs) same
      ∙ ap (λ l. y ∷ l) (same_elements xs ys (sorted_tail nat_cmp (n x) (map n xs) rise) (sorted_tail nat_cmp (n y) (map n ys) rise')
      (members_after x y xs ys rise same there) (members_after y x ys xs rise' (sym same) back))

  numbers_differ : (xs : List X) → Rise xs → IsDistinct eqb (map n xs)
  numbers_differ xs rise = IsDistinct-from_apart eqb (map n xs) (λ i j d low high.
      ne_eqb (get_or (map n xs) i d) (get_or (map n xs) j d) (λ same. absurd (omega (arith, below_from_sorted (map n xs) i j d rise low high))))

  numbers_stay : (xs : List X) → IsNonDecreasingBy n xs → IsNonDecreasing (map n xs)
  numbers_stay [] up i j d low high = omega arith
  numbers_stay (x ∷ xs) up i j d low high =
      let all = x ∷ xs in
      let long : j < length all = omega (arith, length-map all n) in
      let short : i < length all = omega arith in
      omega (arith, up i j x low long, get_or-map n all i x d short, get_or-map n all j x d long)

  -- a list in order is the one of its permutations whose numbers rise
  pub in_order : (xs ys : List X) → IsStrictlyIncreasing (map n xs) → IsPermutation xs ys → IsNonDecreasingBy n ys → ys ≡ xs
  in_order xs ys increase moved up =
      let rise = sorted_from_strictly_increasing (map n xs) increase in
      let apart = IsDistinct-IsPermutation eqb flips (map n xs) (map n ys) (IsPermutation-map n xs ys moved) (numbers_differ xs rise) in
      let rise' = sorted_from_strictly_increasing (map n ys) (IsStrictlyIncreasing-from_distinct (map n ys) (numbers_stay ys up) apart) in
      same_elements ys xs rise' rise (λ z. Contains-permutation ys xs z (IsPermutation-sym xs ys moved)) (λ z. Contains-permutation xs ys z moved)
    where
      flips : (a b : ℕ) → eqb a b ≡ eqb b a
      flips a b = elim (cases_eq a b) [
        | inl same ↦ eq-eqb a b same ∙ sym (eq-eqb b a (sym same))
        | inr apart ↦ ne_eqb a b apart ∙ sym (ne_eqb b a (λ same. apart (sym same)))
      ]
