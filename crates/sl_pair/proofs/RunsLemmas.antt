-- Packets in the order of their APIDs, and their runs.
use Rattle.std.proofs.Common.{◌≡◌, ℕ, ◌+◌, ◌*◌, ◌-◌, ◌<◌, ◌≤◌, List, [], ◌∷◌, length, length-drop, map, drop, sum_by, get_or, Less, Greater, inl, inr, refl, sym, ap, arith}
use Rattle.std.specs.Bool.{⊤}
use Rattle.std.specs.List.{AllByRecursion}
use Rattle.std.specs.List.Sorted.{IsNonDecreasingBy, IsPermutation, IsSortedByKey, IsStableByKey, IsStrictlyIncreasing, IsStrictlySortedBy}
use Rattle.std.specs.Cmp.{nat_cmp_is, ranked}
use Rattle.std.proofs.lemmas.Map.Keys.{IsStrictlyIncreasing-from_sorted, sorted_from_strictly_increasing}
use Rattle.std.specs.Ordering.{nat_cmp}
use Rattle.std.proofs.Math.Nat.{mul-le-mul_left}
use Rattle.std.proofs.lemmas.Bool.Decides.{leb_tells}
use Rattle.std.proofs.lemmas.Bool.{cases_lt}
use Rattle.std.proofs.lemmas.List.{drop_more, get_or-map, length-map, nil_from_length}
use Rattle.std.proofs.lemmas.List.Sums.{get_or-le-sum_by, sum_by-cons}
use Rattle.std.proofs.lemmas.List.Sorted.{IsNonDecreasingBy-from_all_adjacent, IsPermutation-cons, IsPermutation-middle, IsPermutation-refl, IsPermutation-trans, sum_by-IsPermutation, ties_still_rise}
use Rattle.sl_packet.specs.Packet.{apid_of}
use Rattle.sl_pair.specs.Placed.{Placed}
use Rattle.sl_pair.specs.Runs.{by_apid, first_run, put_by_apid}
use Rattle.sl_pair.proofs.RisingLemmas.{in_order}

-- ---- runs

-- the last packet alone
pub last_alone : (left : List Placed) (n : ℕ) → 1 ≤ n → n ≤ length left → length left ≤ n → first_run (drop (n - 1) left) ≡ 1
last_alone left n some inside end =
    let rest = drop_more left (n - 1) (record { packet = []; number = 0; apid_number = 0 }) (omega (arith, some, inside)) in
    let none = nil_from_length (drop (n - 1 + 1) left) (omega (arith, length-drop (n - 1 + 1) left, some, end)) in
    rw (rest, none) refl

-- ---- the order of APIDs

put_permutes : (one : Placed) (xs : List Placed) → IsPermutation (put_by_apid one xs) (one ∷ xs)
put_permutes one [] = IsPermutation-refl (one ∷ [])
put_permutes one (next ∷ later) = elim (leb_tells (apid_of one.packet) (apid_of next.packet)) [
  | inr (is, below) ↦
      rw is (IsPermutation-trans _ (next ∷ one ∷ later) _ (IsPermutation-cons next _ _ (put_permutes one later)) (IsPermutation-middle (next ∷ []) one later))
  | inl (is, above) ↦
      rw is (IsPermutation-refl (one ∷ next ∷ later))
]

pub by_permutes : (xs : List Placed) → IsPermutation (by_apid xs) xs
by_permutes [] = IsPermutation-refl []
by_permutes (one ∷ later) = IsPermutation-trans _ (one ∷ by_apid later) _ (put_permutes one (by_apid later)) (IsPermutation-cons one _ _ (by_permutes later))

-- each is below all later ones
abbrev Ascends : (Placed → ℕ) → List Placed → Type 0
Ascends n [] = ⊤
Ascends n (one ∷ later) = AllByRecursion (λ x. n one < n x) later × Ascends n later

above_more : (n : Placed → ℕ) (low high : ℕ) (xs : List Placed) → low < high → AllByRecursion (λ x. high < n x) xs → AllByRecursion (λ x. low < n x) xs
above_more n low high [] below all = tt
above_more n low high (x ∷ xs) below all = (omega (arith, below, all.0), above_more n low high xs below all.1)

-- from numbers that rise, and to them
ascends_from : (n : Placed → ℕ) (xs : List Placed) → IsStrictlySortedBy nat_cmp (map n xs) → Ascends n xs
unfolding IsStrictlySortedBy
ascends_from n [] rise = tt
ascends_from n (one ∷ later) rise = (go later rise.0, ascends_from n later rise.1)
  where
    go : (xs : List Placed) → AllByRecursion (λ y. nat_cmp (n one) y ≡ Less) (map n xs) → AllByRecursion (λ x. n one < n x) xs
    go [] all = tt
    go (x ∷ xs) all = (ranked (n one) (n x) Less (sym all.0), go xs all.1)

sorted_from : (n : Placed → ℕ) (xs : List Placed) → Ascends n xs → IsStrictlySortedBy nat_cmp (map n xs)
unfolding IsStrictlySortedBy
sorted_from n [] up = tt
sorted_from n (one ∷ later) up = (go later up.0, sorted_from n later up.1)
  where
    go : (xs : List Placed) → AllByRecursion (λ x. n one < n x) xs → AllByRecursion (λ y. nat_cmp (n one) y ≡ Less) (map n xs)
    go [] all = tt
    go (x ∷ xs) all = (sym (nat_cmp_is (n one) (n x) Less all.0), go xs all.1)

-- The APID counts first, and then the number, which is below the bound.
abbrev place_in_order : ℕ → Placed → ℕ
place_in_order bound one = bound * apid_of one.packet + one.number

pub put_all : (P : Placed → Type 0) (one : Placed) (xs : List Placed) → P one → AllByRecursion P xs → AllByRecursion P (put_by_apid one xs)
put_all P one [] p all = (p, tt)
put_all P one (next ∷ later) p all = elim (leb_tells (apid_of one.packet) (apid_of next.packet)) [
  | inr (is, below) ↦ rw is (all.0, put_all P one later p all.1)
  | inl (is, above) ↦ rw is (p, all)
]

by_all : (P : Placed → Type 0) (xs : List Placed) → AllByRecursion P xs → AllByRecursion P (by_apid xs)
by_all P [] all = tt
by_all P (one ∷ later) all = put_all P one (by_apid later) all.0 (by_all P later all.1)

both : (P Q : Placed → Type 0) (xs : List Placed) → AllByRecursion P xs → AllByRecursion Q xs → AllByRecursion (λ x. P x × Q x) xs
both P Q [] p q = tt
both P Q (x ∷ xs) p q = ((p.0, q.0), both P Q xs p.1 q.1)

module _ (bound : ℕ) where
  -- a packet with a lower APID stands before one with a higher one
  apid_first : (one next : Placed) → next.number < bound → apid_of next.packet < apid_of one.packet → place_in_order bound next < place_in_order bound one
  apid_first one next below lower =
      let more : bound * (apid_of next.packet + 1) ≤ bound * apid_of one.packet = mul-le-mul_left {m = apid_of next.packet + 1} {n = apid_of one.packet} bound (omega (arith, lower)) in
      omega (arith, below, more)

  -- and of those with one APID, or where the other one's is higher, a packet with a lower number does
  number_next : (one next : Placed) → apid_of one.packet ≤ apid_of next.packet → one.number < next.number → place_in_order bound one < place_in_order bound next
  number_next one next above lower = omega (arith, lower, mul-le-mul_left {m = apid_of one.packet} {n = apid_of next.packet} bound above)

  -- one packet more among some that stand in order, all of them after it in the recording
  put_ascends : (one : Placed) (xs : List Placed) → Ascends (place_in_order bound) xs → AllByRecursion (λ (x : Placed). (one.number < x.number) × (x.number < bound)) xs
      → Ascends (place_in_order bound) (put_by_apid one xs)
  put_ascends one [] up after = (tt, tt)
  put_ascends one (next ∷ later) up after = elim (leb_tells (apid_of one.packet) (apid_of next.packet)) [
    | inr (is, below) ↦
        rw is (put_all (λ x. place_in_order bound next < place_in_order bound x) one later (apid_first one next after.0.1 below) up.0, put_ascends one later up.1 after.1)
    | inl (is, above) ↦
        let first = number_next one next above after.0.0 in
        rw is ((first, above_more (place_in_order bound) _ _ later first up.0), up)
  ]

  by_ascends : (xs : List Placed) → Ascends (λ (x : Placed). x.number) xs → AllByRecursion (λ (x : Placed). x.number < bound) xs → Ascends (place_in_order bound) (by_apid xs)
  by_ascends [] up below = tt
  by_ascends (one ∷ later) up below = put_ascends one (by_apid later) (by_ascends later up.1 below.1) (by_all _ later (both _ _ later up.0 below.1))

-- a list sorted by its APIDs that were in the order of their numbers
module _ (xs ys : List Placed) (rise : IsStrictlyIncreasing (map (λ (x : Placed). x.number) xs)) (moved : IsPermutation xs ys) (apids : IsNonDecreasingBy (λ (x : Placed). apid_of x.packet) ys)
    (stable : IsStableByKey (λ (x : Placed). apid_of x.packet) nat_cmp xs ys) where
  abbrev bound : ℕ
  bound = sum_by (λ (x : Placed). x.number) xs + 1

  all_below : (zs : List Placed) → AllByRecursion (λ (x : Placed). x.number < sum_by (λ (x : Placed). x.number) zs + 1) zs
  all_below zs = go zs (sum_by (λ (x : Placed). x.number) zs + 1) (omega arith)
    where
      go : (zs : List Placed) (most : ℕ) → sum_by (λ (x : Placed). x.number) zs < most → AllByRecursion (λ (x : Placed). x.number < most) zs
      go [] most inside = tt
      go (x ∷ zs) most inside = (omega (arith, inside, sum_by-cons (λ (x : Placed). x.number) x zs), go zs most (omega (arith, inside, sum_by-cons (λ (x : Placed). x.number) x zs)))

  by_number : IsSortedByKey (λ (x : Placed). x.number) nat_cmp xs
  by_number k d low inside =
      let first = get_or-map (λ (x : Placed). x.number) xs k d 0 (omega (arith, inside)) in
      let then = get_or-map (λ (x : Placed). x.number) xs (k + 1) d 0 inside in
      let up = rise k (omega (arith, inside, length-map xs (λ (x : Placed). x.number))) in
      let less : (get_or xs k d).number < (get_or xs (k + 1) d).number = omega (arith, up, first, then) in
      rw (← nat_cmp_is (get_or xs (k + 1) d).number (get_or xs k d).number Greater less) refl

  pub sorted_by_apid : ys ≡ by_apid xs
  sorted_by_apid =
      let n = place_in_order bound in
      in_order n (by_apid xs) ys (IsStrictlyIncreasing-from_sorted _ (sorted_from n (by_apid xs) (by_ascends bound xs (ascends_from _ xs (sorted_from_strictly_increasing _ rise)) (all_below xs)))) (IsPermutation-trans (by_apid xs) xs ys (by_permutes xs) moved)
      (IsNonDecreasingBy-from_all_adjacent n ys (λ k d inside.
      let one = get_or ys k d in
      let next = get_or ys (k + 1) d in
      let below : one.number < bound = omega (arith, get_or-le-sum_by (λ (x : Placed). x.number) ys k d (omega (arith, inside)), sum_by-IsPermutation (λ (x : Placed). x.number) xs ys moved) in
      let apid : apid_of one.packet ≤ apid_of next.packet = apids k (k + 1) d (omega arith) inside in
      elim (cases_lt (apid_of one.packet) (apid_of next.packet)) [
        | inl lower ↦ omega (arith, apid_first bound next one below lower)
        | inr same ↦
            let equal : apid_of one.packet ≡ apid_of next.packet = omega (arith, apid, same) in
            omega (arith, ties_still_rise (λ (x : Placed). x.number) (λ (x : Placed). apid_of x.packet) xs ys by_number stable k d inside equal, ap (λ a. bound * a) equal)
      ]))
