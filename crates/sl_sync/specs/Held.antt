-- What is counted of a unit.
use Rattle.std.specs.Prelude.{◌≡◌, ℕ, length}
use Rattle.sl_sync.specs.Units.{Content}
use Rattle.sl_sync.specs.declared.units.Held.{Held}

-- these are the counts of a unit that holds this, and that has this number of octets
pub record Holds (content : Content) (size : ℕ) (held : Held) : Type 0 where
  pub frames : held.frames ≡ length content.frames
  pub marked : held.marked ≡ content.marked
  pub cut : held.cut ≡ content.cut
  pub refused : held.refused ≡ content.refused
  pub octets : held.size ≡ size
