-- Whether a managed number is outside given bounds, and no more. Contracts of `sl_tmframe`, `sl_tcframe`
-- and `sl_link` cite this file. No contract of this crate does. The bounds of frame lengths are in
-- `tm_shape` and `tc_shape`, in `TmShape.antt` and `TcShape.antt`.
use Rattle.std.specs.Prelude.{ℕ, nat_lt, Bool, ◌||◌}

-- whether `n` is below `low` or above `high`
abbrev pub is_outside : ℕ → ℕ → ℕ → Bool
is_outside low high n = nat_lt n low || nat_lt high n
