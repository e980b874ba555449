-- The primary header of a space packet, CCSDS 133.0-B: six octets.
use Rattle.std.specs.Prelude.{ℕ, ◌^◌, ◌<◌, Bool, false, List, [], ◌∷◌}
use Rattle.sl_fields.specs.Field.{bit_of, field, flag, octets_of}

-- the fields of the header, in their order
pub record PacketFields : Type 0 where
  pub version : ℕ
  pub kind : ℕ
  pub secondary : Bool
  pub apid : ℕ
  pub flags : ℕ
  pub count : ℕ
  pub length : ℕ

-- each field is within the range of its bits
pub record FitsPacketHeader (h : PacketFields) : Type 0 where
  pub version : h.version < 2 ^ 3
  pub kind : h.kind < 2 ^ 1
  pub apid : h.apid < 2 ^ 11
  pub flags : h.flags < 2 ^ 2
  pub count : h.count < 2 ^ 14
  pub length : h.length < 2 ^ 16

-- The header of an unsegmented telemetry packet without a secondary header: version 0, packet type
-- 0, secondary header flag 0 and sequence flags 3.
abbrev pub telemetry_header : ℕ → ℕ → ℕ → PacketFields
telemetry_header apid count length =
    record {
      version = 0;
      kind = 0;
      secondary = false;
      apid = apid;
      flags = 3;
      count = count;
      length = length;
    }

-- the header that is read from six octets
abbrev pub packet_header : List ℕ → PacketFields
packet_header octets =
    record {
      version = field 6 0 3 octets;
      kind = field 6 3 1 octets;
      secondary = flag 6 4 octets;
      apid = field 6 5 11 octets;
      flags = field 6 16 2 octets;
      count = field 6 18 14 octets;
      length = field 6 32 16 octets;
    }

-- the fields in their order, each as its width and its value
abbrev pub packet_fields : PacketFields → List (ℕ × ℕ)
packet_fields h =
    (3, h.version) ∷ (1, h.kind) ∷ (1, bit_of h.secondary) ∷ (11, h.apid)
    ∷ (2, h.flags) ∷ (14, h.count) ∷ (16, h.length) ∷ []

-- the six octets of the header with these fields
abbrev pub packet_octets : PacketFields → List ℕ
packet_octets h = octets_of 6 (packet_fields h)
