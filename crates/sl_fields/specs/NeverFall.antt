-- Numbers that never fall from one to the next. Laws of `sl_tmflow` and `sl_tcflow` cite this file.
-- No contract of this crate does.
use Rattle.std.specs.Prelude.{⊤, ℕ, ◌≤◌, List, [], ◌∷◌}

-- No number is below the one before it, and the first number isn't below `least`.
abbrev pub NeverFall : ℕ → List ℕ → Type 0
NeverFall least [] = ⊤
NeverFall least (number ∷ numbers) = (least ≤ number) × NeverFall number numbers
