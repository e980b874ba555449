-- A file as its units and the octets between them.
use Rattle.std.specs.Prelude.{◌≡◌, ℕ, zero, suc, ◌-◌, ◌≤◌, Bool, true, List, [], ◌∷◌, ◌++◌, length}
use Rattle.std.specs.Prelude.{◌<◌, true, false, drop}
use Rattle.std.specs.List.{concat}
use Rattle.sl_sync.specs.declared.units.Place.{Place}
use Rattle.sl_sync.specs.declared.units.Place.TheVariants.{Start, Next}

-- what a unit holds
pub record Content : Type 0 where
  -- its frames
  pub frames : List (List ℕ)
  -- its own marker is there, with no more wrong bits than it may have
  pub marked : Bool
  -- the octets of a frame that it hasn't whole
  pub cut : ℕ
  -- its last code block is followed by one that is refused, and isn't the end of the unit
  pub refused : Bool

-- What tells the units of one sort, each of it by the octets from a place on.
pub record Rule : Type 0 where
  -- a unit begins here
  pub begins : Place → List ℕ → Bool
  -- how many octets the unit has that begins here
  pub size : List ℕ → ℕ
  -- what the unit holds that begins here
  pub content : List ℕ → Content
  -- the place behind an octet with which no unit begins
  pub behind : Place → List ℕ → Place
  -- how many octets show all of this
  pub ahead : ℕ

-- what a file is divided into: units, and octets that belong to none, each with the place behind it
pub data Part : Type 0 where
  unit : (content : Content) → Part
  stray : (place : Place) → Part

-- The parts of a file from a place on: a unit wherever one begins, and else the octet is stray and a unit may begin with
-- the next one. The first number is how many octets belong to the last unit still.
abbrev pub parts_from : Rule → ℕ → Place → List ℕ → List Part
parts_from r k place [] = []
parts_from r (suc k) place (o ∷ octets) = parts_from r k place octets
parts_from r zero place (o ∷ octets) =
    elim (r.begins place (o ∷ octets)) [
      | true ↦ unit (r.content (o ∷ octets)) ∷ parts_from r (r.size (o ∷ octets) - 1) Next octets
      | false ↦ stray (r.behind place (o ∷ octets)) ∷ parts_from r zero (r.behind place (o ∷ octets)) octets
    ]

-- the parts from a place on, at which no octet belongs to an earlier unit
abbrev pub parts_of : Rule → Place → List ℕ → List Part
parts_of r place octets = parts_from r 0 place octets

-- what is written: the frames, end to end
abbrev pub text_of : List Part → List ℕ
text_of [] = []
text_of (unit c ∷ parts) = concat c.frames ++ text_of parts
text_of (stray place ∷ parts) = text_of parts

-- the frames of a file, end to end
abbrev pub frames_text : Rule → List ℕ → List ℕ
frames_text r file = text_of (parts_of r Start file)

-- Where no unit begins with the first of these octets, this number of them are stray, `most` at most, and each has this
-- place behind it.
pub record AreStray (r : Rule) (place : Place) (octets : List ℕ) (most : ℕ) (place' : Place) (count : ℕ) : Type 0 where
  pub first : place' ≡ r.behind place octets
  pub some : 1 ≤ count
  pub inside : count ≤ most
  pub others : (j : ℕ) → 1 ≤ j → j < count
      → (r.begins place' (drop j octets) ≡ false) × (place' ≡ r.behind place' (drop j octets))

-- What a rule says of a place is seen in `ahead` octets, whatever comes after them. A unit has an octet or more, and no
-- more than are seen.
pub record IsSound (r : Rule) : Type 0 where
  pub begins_seen : (place : Place) (octets more : List ℕ) → r.ahead ≤ length octets
      → r.begins place (octets ++ more) ≡ r.begins place octets
  pub size_seen : (octets more : List ℕ) → r.ahead ≤ length octets → r.size (octets ++ more) ≡ r.size octets
  pub content_seen : (octets more : List ℕ) → r.ahead ≤ length octets → r.content (octets ++ more) ≡ r.content octets
  pub behind_seen : (place : Place) (octets more : List ℕ) → r.ahead ≤ length octets
      → r.behind place (octets ++ more) ≡ r.behind place octets
  pub has_octet : (place : Place) (octets : List ℕ) → r.begins place octets ≡ true → 1 ≤ length octets
  pub size_some : (octets : List ℕ) → 1 ≤ r.size octets
  pub size_most : (octets : List ℕ) → r.size octets ≤ r.ahead
