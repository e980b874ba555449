-- A `VcSet` stands for the numbers at which its flags are set.
use Rattle.std.specs.Prelude.{◌≡◌, ℕ, zero, suc, Bool, true, false, List, [], ◌∷◌, length}
use Rattle.sl_tcframe.specs.VcSet.{has_vc}
use Rattle.sl_tcframe.specs.declared.vc_set.VcSet.TheInside.{Inside}

-- the numbers at which flags are set, where the first flag has the number `first`
abbrev pub numbers_from : ℕ → List Bool → List ℕ
numbers_from first [] = []
numbers_from first (true ∷ flags) = first ∷ numbers_from (suc first) flags
numbers_from first (false ∷ flags) = numbers_from (suc first) flags

-- `count` flags with numbers from `first` on; those of the numbers `vcs` are set
unfoldable pub flags_from : ℕ → ℕ → List ℕ → List Bool
flags_from zero first vcs = []
flags_from (suc count) first vcs = has_vc vcs first ∷ flags_from count (suc first) vcs

-- what a `VcSet` of the code stands for
abbrev pub vcs_of : Inside → List ℕ
vcs_of s = numbers_from 0 s.flags

-- the invariant of a `VcSet`: it has a flag for each virtual channel
abbrev pub IsVcSet : Inside → Type 0
IsVcSet s = length s.flags ≡ 64

-- the `VcSet` that stands for these numbers
abbrev pub inside_of : List ℕ → Inside
inside_of vcs = record { flags = flags_from 64 0 vcs }
