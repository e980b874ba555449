-- A `TmShape` stands for its format, whose length is one that `TmShape.new` doesn't refuse.
use Rattle.std.specs.Prelude.{◌≤◌}
use Rattle.sl_tmframe.specs.TmFrame.{TmFormat}
use Rattle.sl_tmframe.specs.declared.tm_shape.TmShape.TheInside.{Inside}

-- the format that a `TmShape` stands for
abbrev pub format_of : Inside → TmFormat
format_of s = record { len = s.len; fecf = s.fecf }

-- the length is 32 to 2048 octets
pub record IsTmShape (s : Inside) : Type 0 where
  pub least : 32 ≤ s.len
  pub most : s.len ≤ 2048

-- the fields of the `TmShape` that stands for a format
abbrev pub inside_of : TmFormat → Inside
inside_of format = record { len = format.len; fecf = format.fecf }
