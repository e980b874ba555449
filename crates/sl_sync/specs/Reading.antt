-- A file that is read chunk by chunk.
use Rattle.std.specs.Prelude.{◌≡◌, ◌-◌, ◌^◌, ℕ, Bool, true, List, [], ◌++◌}
use Rattle.sl_sync.specs.Totals.{totals_of}
use Rattle.sl_sync.specs.Units.{Rule, parts_of}
use Rattle.sl_sync.specs.Window.{Cuts}
use Rattle.sl_sync.specs.declared.kept.Kept.{Kept}
use Rattle.sl_sync.specs.declared.totals.Totals.{Totals}
use Rattle.sl_sync.specs.declared.units.Place.TheVariants.{Start}

-- the octets that a file may have, at most
abbrev pub most_octets : ℕ
most_octets = 2 ^ 64 - 1

-- how many octets are read at once, at most
abbrev pub chunk_size : ℕ
chunk_size = 0x10000

-- the counts of a file
abbrev pub file_totals : Rule → List ℕ → Totals
file_totals r file = totals_of (parts_of r Start file)

-- Nothing was read yet.
pub record IsAtStart (kept : Kept) : Type 0 where
  pub none : kept.window.items ≡ []
  pub place : kept.place ≡ Start
  pub totals : kept.totals ≡ totals_of []

-- A chunk came behind what was kept. Of both the first parts were cut, and their frames alone wait to be written. Where
-- the file ends with the chunk, nothing else is left.
pub record CutsChunk (r : Rule) (ended : Bool) (chunk : List ℕ) (old new : Kept) : Type 0 where
  pub cut : Cuts r ended old.place (old.window.items ++ chunk) new.place new.window.items [] new.text.items old.totals new.totals
  pub all : ended ≡ true → new.window.items ≡ []
