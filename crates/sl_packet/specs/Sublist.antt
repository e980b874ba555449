-- A list within another list: its elements are among the other's, in the same order.
use Rattle.std.specs.Prelude.{◌≡◌, ⊤, ◌⊎◌, List, [], ◌∷◌}

module _ {X : Type 0} where
  -- each element is in the other list, after the place of the element before it
  abbrev pub IsSublist : List X → List X → Type 0
  IsSublist [] ys = ⊤
  IsSublist (x ∷ xs) [] = ⊥
  IsSublist (x ∷ xs) (y ∷ ys) = ((x ≡ y) × IsSublist xs ys) ⊎ IsSublist (x ∷ xs) ys
