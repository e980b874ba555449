-- A `Managed` stands for its parameters. None of these is refused, and each initial V(R) is an octet.
use Rattle.sl_engine.specs.Link.Managed.{AreAccepted, Parameters, tc_format, tm_format}
use Rattle.sl_engine.specs.declared.link.managed.Managed.TheInside.{Inside}

abbrev pub parameters_of : Inside → Parameters
parameters_of m =
    record {
      spacecraft = m.spacecraft;
      tm_length = m.tm.len;
      tm_fecf = m.tm.fecf;
      tc_max = m.tc.max;
      tc_fecf = m.tc.fecf;
      window = m.window;
      starts = m.starts;
      plain = m.plain;
      max_octets = m.max_octets;
    }

abbrev pub IsManaged : Inside → Type 0
IsManaged m = AreAccepted (parameters_of m)

abbrev pub inside_of : Parameters → Inside
inside_of p =
    record {
      spacecraft = p.spacecraft;
      tm = tm_format p;
      tc = tc_format p;
      window = p.window;
      starts = p.starts;
      plain = p.plain;
      max_octets = p.max_octets;
    }
