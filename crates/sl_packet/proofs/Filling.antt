-- Lists that are filled up with one element.
use Rattle.std.proofs.Common.{◌≡◌, ℕ, zero, suc, ◌+◌, ◌≤◌, List, [], ◌∷◌, ◌++◌, length, take, replicate, get_or, set, refl, sym, ◌∙◌, ap, arith}
use Rattle.std.proofs.lemmas.List.{take-replicate}

-- the number of filling elements doesn't change the first elements
pub take_filled : {X : Type 0} (k : ℕ) (xs : List X) (x : X) (a b : ℕ) → k ≤ length xs + a → k ≤ length xs + b → take k (xs ++ replicate a x) ≡ take k (xs ++ replicate b x)
take_filled k [] x a b h h' = take-replicate k a x (omega arith) ∙ sym (take-replicate k b x (omega arith))
take_filled zero (y ∷ xs) x a b h h' = refl
take_filled (suc k) (y ∷ xs) x a b h h' = ap (λ ys. y ∷ ys) (take_filled k xs x a b (omega arith) (omega arith))

pub get_or_replicate : {X : Type 0} (n i : ℕ) (x : X) → get_or (replicate n x) i x ≡ x
get_or_replicate zero i x = refl
get_or_replicate (suc n) zero x = refl
get_or_replicate (suc n) (suc i) x = get_or_replicate n i x

pub get_or_filled : {X : Type 0} (xs : List X) (n i : ℕ) (x : X) → get_or (xs ++ replicate n x) i x ≡ get_or xs i x
get_or_filled [] n i x = get_or_replicate n i x
get_or_filled (y ∷ xs) n zero x = refl
get_or_filled (y ∷ xs) n (suc i) x = get_or_filled xs n i x

pub take_set : {X : Type 0} (n : ℕ) (xs : List X) (i : ℕ) (x : X) → take n (set xs i x) ≡ set (take n xs) i x
take_set zero xs i x = refl
take_set (suc n) [] i x = refl
take_set (suc n) (y ∷ xs) zero x = refl
take_set (suc n) (y ∷ xs) (suc i) x = ap (λ ys. y ∷ ys) (take_set n xs i x)
