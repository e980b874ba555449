-- A `TcShape` stands for its format, whose greatest length is 16 to 1024 octets.
use Rattle.std.specs.Prelude.{◌≤◌}
use Rattle.sl_tcframe.specs.TcFrame.{TcFormat}
use Rattle.sl_tcframe.specs.declared.tc_shape.TcShape.TheInside.{Inside}

abbrev pub format_of : Inside → TcFormat
format_of s = record { max = s.max; fecf = s.fecf }

pub record IsTcShape (s : Inside) : Type 0 where
  pub least : 16 ≤ s.max
  pub most : s.max ≤ 1024

abbrev pub inside_of : TcFormat → Inside
inside_of format = record { max = format.max; fecf = format.fecf }
