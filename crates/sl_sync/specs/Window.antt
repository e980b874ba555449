-- The parts at the front of a file of which a window is known.
use Rattle.std.specs.Prelude.{◌≡◌, Bool, true, ℕ, List, [], ◌++◌}
use Rattle.sl_sync.specs.Totals.{totals_of}
use Rattle.sl_sync.specs.Units.{Part, Rule, parts_of, text_of}
use Rattle.sl_sync.specs.declared.totals.Totals.{Totals}
use Rattle.sl_sync.specs.declared.units.Place.{Place}

-- Whatever comes after the window, and nothing where the file ends with it: its first parts are these, and the others
-- are those of `rest`, what is left of the window, with what comes after it. The frames of the first parts were added
-- to a text, and the parts were counted after any others that had been.
pub record Cuts (r : Rule) (ended : Bool) (place : Place) (window : List ℕ) (place' : Place) (rest old new : List ℕ)
    (totals totals' : Totals) : Type 0 where
  pub parts : List Part
  pub all : (more : List ℕ) → (ended ≡ true → more ≡ [])
      → parts_of r place (window ++ more) ≡ parts ++ parts_of r place' (rest ++ more)
  pub added : new ≡ old ++ text_of parts
  pub counted : (earlier : List Part) → totals ≡ totals_of earlier → totals' ≡ totals_of (earlier ++ parts)
