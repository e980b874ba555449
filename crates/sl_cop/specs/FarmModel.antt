-- A `Window` stands for its width, which is even and 2 to 254. A `Farm` stands for its window and
-- its state.
use Rattle.std.specs.Prelude.{ℕ, ◌<◌, ◌≤◌}
use Rattle.sl_cop.specs.Farm.{FarmView, IsWidth}
use Rattle.sl_cop.specs.declared.window.Window.TheInside as window
use Rattle.sl_cop.specs.declared.farm.Farm.TheInside as farm

-- the width of a window
abbrev pub window_width : window.Inside → ℕ
window_width w = w.width

-- the invariant of a `Window`: the width is even, 2 to 254
pub record IsWindow (w : window.Inside) : Type 0 where
  pub width : IsWidth w.width
  pub most : w.width ≤ 254

-- the window of a width
abbrev pub window_of : ℕ → window.Inside
window_of w = record { width = w }

-- The width of the window and the state of a `Farm`. The field `window` is a number here, since a
-- `Window` stands for its width.
abbrev pub farm_view : farm.Inside → FarmView
farm_view f =
    record {
      window = f.window;
      state = record { vr = f.vr; lockout = f.lockout; retransmit = f.retransmit; farm_b = f.farm_b };
    }

-- the invariant of a `Farm`: the width of the window is even, 2 to 254, and the FARM-B counter is 0
-- to 3
pub record IsFarm (f : farm.Inside) : Type 0 where
  pub width : IsWidth f.window
  pub most : f.window ≤ 254
  pub farm_b : f.farm_b < 4

-- the `Farm` with this width of the window and this state
abbrev pub inside_of : FarmView → farm.Inside
inside_of v =
    record {
      window = v.window;
      vr = v.state.vr;
      lockout = v.state.lockout;
      retransmit = v.state.retransmit;
      farm_b = v.state.farm_b;
    }
