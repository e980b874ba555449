-- A `SegmentHeader` stands for its fields. Each field is in range. `Inside` is the struct itself.
use Rattle.sl_fields.specs.SegmentHeader.{SegmentFields, FitsSegmentHeader}
use Rattle.sl_fields.specs.declared.segment_header.SegmentHeader.TheInside.{Inside}

-- the fields that this struct stands for
abbrev pub fields_of : Inside → SegmentFields
fields_of h =
    record {
      flags = h.flags;
      map = h.map;
    }

-- what holds of each struct: its fields are in range
abbrev pub IsSegmentHeader : Inside → Type 0
IsSegmentHeader h = FitsSegmentHeader (fields_of h)

-- the struct that stands for these fields
abbrev pub inside_of : SegmentFields → Inside
inside_of v =
    record {
      flags = v.flags;
      map = v.map;
    }
