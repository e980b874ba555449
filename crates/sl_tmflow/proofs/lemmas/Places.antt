-- The elements of a list, and their places in it.
use Rattle.std.proofs.Common.{◌≡◌, ◌⊎◌, ℕ, ◌<◌, ◌≤◌, Bool, true, ◌||◌, List, [], ◌∷◌, ◌++◌, length, inl, inr, refl, sym, ◌∙◌, ap, subst, arith, append-nil, length-append}
use Rattle.std.specs.List.{AllByRecursion, concat, flat_map, list_any}
use Rattle.std.proofs.lemmas.Bool.{or_right}
use Rattle.sl_tmflow.specs.Among.{IsAmong}

module _ {X : Type 0} where
  -- a property of each element is one of an element that is among them
  pub each_among : (P : X → Type 0) (x : X) (xs : List X) → AllByRecursion P xs → IsAmong x xs → P x
  each_among P x [] each there = absurd there
  each_among P x (y ∷ ys) each (inl here) = subst P (sym here) each.0
  each_among P x (y ∷ ys) each (inr there) = each_among P x ys each.1 there

  pub among-left : (x : X) (xs ys : List X) → IsAmong x xs → IsAmong x (xs ++ ys)
  among-left x [] ys there = absurd there
  among-left x (y ∷ xs) ys (inl here) = inl here
  among-left x (y ∷ xs) ys (inr there) = inr (among-left x xs ys there)

  pub among-right : (x : X) (xs ys : List X) → IsAmong x ys → IsAmong x (xs ++ ys)
  among-right x [] ys there = there
  among-right x (y ∷ xs) ys there = inr (among-right x xs ys there)

  pub among-flat_map : {Y : Type 0} (x : X) (f : Y → List X) (y : Y) (ys : List Y) → IsAmong y ys → IsAmong x (f y) → IsAmong x (flat_map f ys)
  among-flat_map x f y [] among there = absurd among
  among-flat_map x f y (other ∷ ys) (inl here) there = among-left x (f other) (flat_map f ys) (subst (λ z. IsAmong x (f z)) here there)
  among-flat_map x f y (other ∷ ys) (inr among) there = among-right x (f other) (flat_map f ys) (among-flat_map x f y ys among there)

-- if a list of lists has only one list, all octets are in it
pub count_of_one : (octets : List ℕ) (all : List (List ℕ)) → length all ≤ 1 → IsAmong octets all → length (concat all) ≡ length octets
count_of_one octets [] few there = absurd there
count_of_one octets (one ∷ []) few (inl here) = ap length (append-nil one) ∙ ap length (sym here)
count_of_one octets (one ∷ []) few (inr there) = absurd there
count_of_one octets (one ∷ two ∷ more) few there = absurd (omega arith)

-- lists of one element at most, one list for each of these, have no more elements in all than there are of these
pub few_each : (f : List ℕ → List (List ℕ)) → ((octets : List ℕ) → length (f octets) ≤ 1) → (all : List (List ℕ)) → length (flat_map f all) ≤ length all
few_each f one [] = omega arith
few_each f one (octets ∷ all) = omega (arith, one octets, few_each f one all, length-append (f octets) (flat_map f all))

-- where a list of lists has octets, it has an element with the property
pub some_of_each : (P : List ℕ → Type 0) (all : List (List ℕ)) → AllByRecursion P all → 0 < length (concat all) → (octets : List ℕ) × P octets
some_of_each P [] each some = absurd (omega arith)
some_of_each P (one ∷ more) each some = (one, each.0)

-- where an element of the list passes a test, some element passes it
pub some_passes : {X : Type 0} (p : X → Bool) (x : X) (xs : List X) → IsAmong x xs → p x ≡ true → list_any p xs ≡ true
some_passes p x [] there test = absurd there
some_passes p x (y ∷ ys) (inl here) test = ap (λ b. b || list_any p ys) (ap p (sym here) ∙ test)
some_passes p x (y ∷ ys) (inr there) test = or_right (p y) (list_any p ys) (some_passes p x ys there test)

-- a list with an element isn't empty
pub some_element : {X : Type 0} (earlier : List X) (x : X) (later : List X) → [] ≡ earlier ++ x ∷ later → ⊥
some_element [] x later same = cc
some_element (e ∷ earlier) x later same = cc

-- in two divisions of a list at the same place, the elements there and those after it are the same
pub same_place : {X : Type 0} (xs ys : List X) (x y : X) (xs' ys' : List X) → xs ++ x ∷ xs' ≡ ys ++ y ∷ ys' → length xs ≡ length ys → (x ≡ y) × (xs' ≡ ys')
same_place [] [] x y xs' ys' same long = (cc, cc)
same_place (a ∷ xs) (b ∷ ys) x y xs' ys' same long = same_place xs ys x y xs' ys' (cc) (omega arith)
same_place xs ys x y xs' ys' same long = absurd (omega arith)

-- a list with an element has a last one
pub has_last : {X : Type 0} (x : X) (xs : List X) → (earlier : List X) × (last : X) × (x ∷ xs ≡ earlier ++ last ∷ [])
has_last x [] = ([], x, refl)
has_last x (y ∷ ys) =
    let (earlier, last, same) = has_last y ys in
    (x ∷ earlier, last, ap (λ l. x ∷ l) same)

-- an element of a list with one more element is this one, or one of the list
pub cases_last : {X : Type 0} (xs : List X) (last : X) (earlier : List X) (x : X) (later : List X) → xs ++ last ∷ [] ≡ earlier ++ x ∷ later
    → ((xs ≡ earlier) × (last ≡ x)) ⊎ ((between : List X) × (xs ≡ earlier ++ x ∷ between))
cases_last [] last [] x later same = inl (refl, cc)
cases_last [] last (e ∷ earlier) x later same = absurd (some_element earlier x later (cc))
cases_last (y ∷ ys) last [] x later same = inr (ys, cc)
cases_last (y ∷ ys) last (e ∷ earlier) x later same = grind (arith, cases_last ys last earlier x later (cc))
