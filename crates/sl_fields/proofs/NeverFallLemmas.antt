-- Numbers that never fall.
use Rattle.std.proofs.Common.{◌≡◌, ℕ, ◌≤◌, List, [], ◌∷◌, ◌++◌, map, arith}
use Rattle.std.specs.List.{AllByRecursion}
use Rattle.sl_fields.specs.NeverFall.{NeverFall}

pub lower : (least other : ℕ) (numbers : List ℕ) → other ≤ least → NeverFall least numbers → NeverFall other numbers
lower least other [] low fall = tt
lower least other (number ∷ numbers) low fall = (let first = fall.0 in omega arith, fall.1)

-- those of one number, and then others that are no less
module _ {X : Type 0} (f : X → ℕ) where
  pub then_later : (m least : ℕ) (xs ys : List X) → least ≤ m → AllByRecursion (λ x. f x ≡ m) xs → NeverFall m (map f ys) → NeverFall least (map f (xs ++ ys))
  then_later m least [] ys low same later = lower m least (map f ys) low later
  then_later m least (x ∷ xs) ys low same later =
      let is = same.0 in (omega arith, then_later m (f x) xs ys (omega arith) same.1 later)
