-- A `Clcw` stands for its fields. Each field is in range. `Inside` is the struct itself.
use Rattle.sl_fields.specs.Clcw.{ClcwFields, FitsClcw}
use Rattle.sl_fields.specs.declared.clcw.Clcw.TheInside.{Inside}

-- the fields that this struct stands for
abbrev pub fields_of : Inside → ClcwFields
fields_of w =
    record {
      word = w.word;
      version = w.version;
      status = w.status;
      cop = w.cop;
      vc = w.vc;
      spare = w.spare;
      no_rf = w.no_rf;
      no_lock = w.no_lock;
      lockout = w.lockout;
      wait = w.wait;
      retransmit = w.retransmit;
      farm_b = w.farm_b;
      spare_end = w.spare_end;
      report = w.report;
    }

-- what holds of each struct: its fields are in range
abbrev pub IsClcw : Inside → Type 0
IsClcw w = FitsClcw (fields_of w)

-- the struct that stands for these fields
abbrev pub inside_of : ClcwFields → Inside
inside_of v =
    record {
      word = v.word;
      version = v.version;
      status = v.status;
      cop = v.cop;
      vc = v.vc;
      spare = v.spare;
      no_rf = v.no_rf;
      no_lock = v.no_lock;
      lockout = v.lockout;
      wait = v.wait;
      retransmit = v.retransmit;
      farm_b = v.farm_b;
      spare_end = v.spare_end;
      report = v.report;
    }
