-- A `Starts` stands for the V(R) of its virtual channels, in their order.
use Rattle.std.specs.Prelude.{ℕ, List}
use Rattle.sl_cop.specs.Starts.{AreStarts}
use Rattle.sl_cop.specs.declared.starts.Starts.TheInside.{Inside}

-- the initial V(R) of the virtual channels 0 to 63
abbrev pub vrs_of : Inside → List ℕ
vrs_of s = s.vrs

-- the invariant: one initial V(R), 0 to 255, for each of the 64 virtual channels
abbrev pub IsStarts : Inside → Type 0
IsStarts s = AreStarts s.vrs

-- the `Starts` with these initial V(R)
abbrev pub inside_of : List ℕ → Inside
inside_of starts = record { vrs = starts }
