-- What callers of an extractor and of a receiver promise of the frames that they were given.
use Rattle.std.specs.Prelude.{◌≡◌, List, ◌∷◌, ◌++◌}

-- `holds` is true of one of the frames, `frame`, and of those that came before it.
pub record HoldsAtOne {View : Type 0} (holds : List View → View → Type 0) (frames : List View) : Type 0 where
  pub before : List View
  pub frame : View
  pub later : List View
  pub in_order : frames ≡ before ++ frame ∷ later
  pub at_frame : holds before frame
