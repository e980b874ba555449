-- A set of virtual channels of CCSDS 232.0-B, as the list of its numbers in rising order, and the
-- text that lists them. The form of the text is this project's choice.
use Rattle.std.specs.Prelude.{◌≡◌, ℕ, suc, ◌<◌, ◌≤◌, ◌==◌, nat_lt, Bool, false, ◌||◌, if◌then◌else◌, List, [], ◌∷◌, map, length}
use Rattle.std.specs.Fmt.{decimal}
use Rattle.std.specs.List.{join_with_byte}

-- whether the virtual channel is in the set
abbrev pub has_vc : List ℕ → ℕ → Bool
has_vc [] vc = false
has_vc (v ∷ vcs) vc = vc == v || has_vc vcs vc

-- the set with this number added at its place in the order, if the set hasn't got it yet
abbrev pub with_vc : List ℕ → ℕ → List ℕ
with_vc [] vc = vc ∷ []
with_vc (v ∷ vcs) vc = if nat_lt vc v then vc ∷ v ∷ vcs else if vc == v then v ∷ vcs else v ∷ with_vc vcs vc

-- numbers that rise strictly, from `least` to 63
abbrev pub AreRising : ℕ → List ℕ → Type 0
AreRising least [] = Unit {0}
AreRising least (vc ∷ vcs) = (least ≤ vc) × (vc ≤ 63) × AreRising (suc vc) vcs

-- ---- as text

-- the text of numbers: in decimal, joined by single commas (octet 44)
abbrev pub vc_text : List ℕ → List ℕ
vc_text vcs = join_with_byte 44 (map decimal vcs)

-- the text lists these numbers: one or more, which rise strictly from `least` to 63
pub record Lists (least : ℕ) (text vcs : List ℕ) : Type 0 where
  pub some : 0 < length vcs
  pub rising : AreRising least vcs
  pub written : text ≡ vc_text vcs

-- ---- laws

-- A number that is added is in the set, and nothing else changes.
abbrev pub NumbersAreAdded : Type 0
NumbersAreAdded = (vcs : List ℕ) (vc v : ℕ) → has_vc (with_vc vcs vc) v ≡ (v == vc || has_vc vcs v)

-- Numbers that rise strictly from `least` to 63 still do so where another number in this range is
-- added.
abbrev pub AddedNumbersRise : Type 0
AddedNumbersRise =
    (least : ℕ) (vcs : List ℕ) (vc : ℕ) → AreRising least vcs → least ≤ vc → vc ≤ 63 → AreRising least (with_vc vcs vc)

-- A text lists numbers in at most one way.
abbrev pub ListsOnce : Type 0
ListsOnce = (least : ℕ) (text vcs others : List ℕ) → Lists least text vcs → Lists least text others → vcs ≡ others
