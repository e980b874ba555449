-- A `TcHeader` stands for its fields. Each field is in range. `Inside` is the struct itself.
use Rattle.sl_fields.specs.TcHeader.{TcFields, FitsTcHeader}
use Rattle.sl_fields.specs.declared.tc_header.TcHeader.TheInside.{Inside}

-- the fields that this struct stands for
abbrev pub fields_of : Inside → TcFields
fields_of h =
    record {
      version = h.version;
      bypass = h.bypass;
      command = h.command;
      spare = h.spare;
      spacecraft = h.spacecraft;
      vc = h.vc;
      length = h.length;
      ns = h.ns;
    }

-- what holds of each struct: its fields are in range
abbrev pub IsTcHeader : Inside → Type 0
IsTcHeader h = FitsTcHeader (fields_of h)

-- the struct that stands for these fields
abbrev pub inside_of : TcFields → Inside
inside_of v =
    record {
      version = v.version;
      bypass = v.bypass;
      command = v.command;
      spare = v.spare;
      spacecraft = v.spacecraft;
      vc = v.vc;
      length = v.length;
      ns = v.ns;
    }
