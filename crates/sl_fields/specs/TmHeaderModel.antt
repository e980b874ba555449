-- A `TmHeader` stands for its fields. Each field is in range. `Inside` is the struct itself.
use Rattle.sl_fields.specs.TmHeader.{TmFields, FitsTmHeader}
use Rattle.sl_fields.specs.declared.tm_header.TmHeader.TheInside.{Inside}

-- the fields that this struct stands for
abbrev pub fields_of : Inside → TmFields
fields_of h =
    record {
      version = h.version;
      spacecraft = h.spacecraft;
      vc = h.vc;
      control = h.control;
      mc = h.mc;
      vcc = h.vcc;
      secondary = h.secondary;
      sync = h.sync;
      order = h.order;
      segment = h.segment;
      first = h.first;
    }

-- what holds of each struct: its fields are in range
abbrev pub IsTmHeader : Inside → Type 0
IsTmHeader h = FitsTmHeader (fields_of h)

-- the struct that stands for these fields
abbrev pub inside_of : TmFields → Inside
inside_of v =
    record {
      version = v.version;
      spacecraft = v.spacecraft;
      vc = v.vc;
      control = v.control;
      mc = v.mc;
      vcc = v.vcc;
      secondary = v.secondary;
      sync = v.sync;
      order = v.order;
      segment = v.segment;
      first = v.first;
    }
