-- Series of segments that are incomplete, CCSDS 232.0-B: the latest first segment of a MAP, after
-- which continuing ones have come, or none, and no other. The greatest length of a service data
-- unit, 65,542 octets, is this project's choice.
use Rattle.std.specs.Prelude.{◌≡◌, ℕ, ◌+◌, ◌≤◌, ◌==◌, ◌&&◌, Bool, true, false, nat_le, nat_lt, if◌then◌else◌, List, [], ◌∷◌, ◌++◌, length, Option, None, Some}
use Rattle.std.specs.List.{AllByRecursion}
use Rattle.sl_packet.specs.Packet.{longest_packet}
use Rattle.sl_tcflow.specs.Series.{flags_of, reassembled}

-- ---- the relation

-- A series is incomplete after the last segment of a MAP's list, and has these octets so far.
pub record IsIncomplete (list : List (List ℕ)) (octets : List ℕ) : Type 0 where
  -- the segments before the series, the first segment of the series, and all segments after it
  pub earlier : List (List ℕ)
  pub first : List ℕ
  pub later : List (List ℕ)
  pub in_order : list ≡ earlier ++ first ∷ later
  pub begins : flags_of first ≡ 1
  -- the later segments are continuing ones
  pub goes_on : AllByRecursion (λ segment. flags_of segment ≡ 0) later
  -- these are the octets of the series after its segment headers, and not too many: this
  -- project's choice
  pub together : octets ≡ reassembled (first ∷ later)
  pub fits : length octets ≤ longest_packet

-- ---- the octets so far, if a series is incomplete

-- the octets of a service data unit, or of a series so far; `None` where they are too many
abbrev pub if_fits : List ℕ → Option (List ℕ)
if_fits octets = if nat_le (length octets) longest_packet then Some octets else None

-- whether the incomplete series, if there is one, has too many octets with `more` octets; the
-- series is given by the number of its octets so far
abbrev pub exceeds_limit : Option ℕ → ℕ → Bool
exceeds_limit None more = false
exceeds_limit (Some octets) more = nat_lt longest_packet (octets + more)

-- whether all segments are continuing ones
abbrev pub are_continuing : List (List ℕ) → Bool
are_continuing [] = true
are_continuing (segment ∷ later) = flags_of segment == 0 && are_continuing later

-- the octets so far of the series that is incomplete after a list, if there is one: a first segment
-- begins the series, only continuing ones come after it, and their octets aren't too many
abbrev pub incomplete_of : List (List ℕ) → Option (List ℕ)
incomplete_of [] = None
incomplete_of (segment ∷ later) =
    if flags_of segment == 1 && are_continuing later then if_fits (reassembled (segment ∷ later))
    else incomplete_of later

-- ---- laws

-- A series that `incomplete_of` finds is incomplete.
abbrev pub WhatIsToldIsIncomplete : Type 0
WhatIsToldIsIncomplete =
    (list : List (List ℕ)) (octets : List ℕ) → incomplete_of list ≡ Some octets → IsIncomplete list octets

-- A series that is incomplete is found.
abbrev pub IncompleteIsTold : Type 0
IncompleteIsTold =
    (list : List (List ℕ)) (octets : List ℕ) → IsIncomplete list octets → incomplete_of list ≡ Some octets

-- At most one series is incomplete: any two begin at the same segment.
abbrev pub OneBegins : Type 0
OneBegins =
    (list : List (List ℕ)) (octets others : List ℕ) (one : IsIncomplete list octets) (other : IsIncomplete list others)
    → length one.earlier ≡ length other.earlier

-- Two incomplete series have the same octets so far.
abbrev pub OneIsIncomplete : Type 0
OneIsIncomplete =
    (list : List (List ℕ)) (octets others : List ℕ) → IsIncomplete list octets → IsIncomplete list others
    → octets ≡ others

-- An incomplete series has 65,542 octets at most.
abbrev pub IncompleteFits : Type 0
IncompleteFits =
    (list : List (List ℕ)) (octets : List ℕ) → incomplete_of list ≡ Some octets → length octets ≤ longest_packet
