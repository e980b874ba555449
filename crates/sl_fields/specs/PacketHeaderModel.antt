-- A `PacketHeader` stands for its fields. Each field is in range. `Inside` is the struct itself.
use Rattle.sl_fields.specs.PacketHeader.{PacketFields, FitsPacketHeader}
use Rattle.sl_fields.specs.declared.packet_header.PacketHeader.TheInside.{Inside}

-- the fields that this struct stands for
abbrev pub fields_of : Inside → PacketFields
fields_of h =
    record {
      version = h.version;
      kind = h.kind;
      secondary = h.secondary;
      apid = h.apid;
      flags = h.flags;
      count = h.count;
      length = h.length;
    }

-- what holds of each struct: its fields are in range
abbrev pub IsPacketHeader : Inside → Type 0
IsPacketHeader h = FitsPacketHeader (fields_of h)

-- the struct that stands for these fields
abbrev pub inside_of : PacketFields → Inside
inside_of v =
    record {
      version = v.version;
      kind = v.kind;
      secondary = v.secondary;
      apid = v.apid;
      flags = v.flags;
      count = v.count;
      length = v.length;
    }
