-- What is counted of the parts of a file.
use Rattle.std.specs.Prelude.{◌≡◌, ℕ, ◌+◌, ◌-◌, ◌*◌, ◌^◌, min, Bool, true, false, List, [], ◌∷◌, length}
use Rattle.sl_sync.specs.Units.{Part, unit, stray}
use Rattle.sl_sync.specs.declared.totals.Totals.{Totals}
use Rattle.sl_sync.specs.declared.units.Held.{Held}
use Rattle.sl_sync.specs.declared.units.Place.{Place}
use Rattle.sl_sync.specs.declared.units.Place.TheVariants.{Start, Next, Astray}

-- what each part counts for, added
abbrev pub weight : (Part → ℕ) → List Part → ℕ
weight w [] = 0
weight w (part ∷ parts) = w part + weight w parts

-- 1 where the test holds
abbrev pub one_if : Bool → ℕ
one_if true = 1
one_if false = 0

-- its frames
abbrev pub frame_count : Part → ℕ
frame_count (unit c) = length c.frames
frame_count (stray place) = 0

-- a unit whose own marker isn't there
abbrev pub wrong_count : Part → ℕ
wrong_count (unit c) = 1 - one_if c.marked
wrong_count (stray place) = 0

-- an octet that belongs to no unit
abbrev pub skipped_count : Part → ℕ
skipped_count (unit c) = 0
skipped_count (stray place) = 1

-- a stray octet after which the units have to be found again
abbrev pub astray_count : Part → ℕ
astray_count (unit c) = 0
astray_count (stray Start) = 0
astray_count (stray Next) = 0
astray_count (stray Astray) = 1

-- a code block that is refused
abbrev pub refused_count : Part → ℕ
refused_count (unit c) = one_if c.refused
refused_count (stray place) = 0

-- the octets of a frame that isn't whole
abbrev pub cut_count : Part → ℕ
cut_count (unit c) = c.cut
cut_count (stray place) = 0

-- a count stops at the greatest number of 64 bits
abbrev pub capped : ℕ → ℕ
capped n = min n (2 ^ 64 - 1)

-- the counts of parts
unfoldable pub totals_of : List Part → Totals
totals_of parts = record {
  frames = capped (weight frame_count parts);
  wrong_markers = capped (weight wrong_count parts);
  skipped = capped (weight skipped_count parts);
  astray = capped (weight astray_count parts);
  refused_blocks = capped (weight refused_count parts);
  cut = capped (weight cut_count parts);
}

-- the counts with those of a unit
pub record CountsUnit (old : Totals) (held : Held) (new : Totals) : Type 0 where
  pub frames : new.frames ≡ capped (old.frames + held.frames)
  pub wrong_markers : new.wrong_markers ≡ capped (old.wrong_markers + (1 - one_if held.marked))
  pub skipped : new.skipped ≡ old.skipped
  pub astray : new.astray ≡ old.astray
  pub refused_blocks : new.refused_blocks ≡ capped (old.refused_blocks + one_if held.refused)
  pub cut : new.cut ≡ capped (old.cut + held.cut)

-- the counts with a number of stray octets
pub record CountsStray (old : Totals) (place : Place) (count : ℕ) (new : Totals) : Type 0 where
  pub frames : new.frames ≡ old.frames
  pub wrong_markers : new.wrong_markers ≡ old.wrong_markers
  pub skipped : new.skipped ≡ capped (old.skipped + count)
  pub astray : new.astray ≡ capped (old.astray + count * astray_count (stray place))
  pub refused_blocks : new.refused_blocks ≡ old.refused_blocks
  pub cut : new.cut ≡ old.cut
