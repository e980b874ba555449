-- The TM transfer frame of packets as it is written, CCSDS 132.0-B: it has no operational control
-- field and no secondary header, and its synchronisation flag is 0.
use Rattle.std.specs.Prelude.{◌≡◌, ℕ, ◌-◌, ◌<◌, ◌≤◌, List, [], ◌∷◌, ◌++◌, length, Option, None, Some, IfSome, Ok}
use Rattle.sl_fields.specs.FecfField.{fecf_len, with_fecf}
use Rattle.sl_fields.specs.Field.{octets_of}
use Rattle.sl_tmframe.specs.TmFrame.{TmFormat, TmView, Packets, tm_frame}

-- how many octets the data field has, in a frame without an operational control field
abbrev pub field_room_of : TmFormat → ℕ
field_room_of format = format.len - 6 - fecf_len format.fecf

-- the first header pointer: the offset of the first packet start, and 2047 where no packet starts
-- in the data field
abbrev pub pointer_value : Option ℕ → ℕ
pointer_value None = 2047
pointer_value (Some first) = first

-- The fields of the frame's header, each with its width in bits before its value: version 0, the
-- spacecraft, the virtual channel, no operational control field, the master (`mc`) and the virtual
-- channel frame count (`vcc`), no secondary header, synchronisation flag 0, packet order flag 0,
-- segment length identifier 3, and the first header pointer. These are the values of
-- `packets_header` in `sl_fields`, spelt out so that this file alone says which bits come first.
abbrev pub frame_fields : ℕ → ℕ → ℕ → ℕ → Option ℕ → List (ℕ × ℕ)
frame_fields spacecraft vc mc vcc first =
    (2, 0) ∷ (10, spacecraft) ∷ (3, vc) ∷ (1, 0) ∷ (8, mc) ∷ (8, vcc) ∷ (1, 0) ∷ (1, 0) ∷ (1, 0) ∷ (2, 3)
    ∷ (11, pointer_value first) ∷ []

-- the octets of the frame of packets with these identifiers, these frame counts, this first packet
-- start and this data field; `tm_frame` goes the other way, from octets to a view
abbrev pub packet_frame : TmFormat → ℕ → ℕ → ℕ → ℕ → Option ℕ → List ℕ → List ℕ
packet_frame format spacecraft vc mc vcc first field =
    with_fecf format.fecf (octets_of 6 (frame_fields spacecraft vc mc vcc first) ++ field)

-- ---- laws

-- Frames may have this format, and a frame of packets of this format may have this spacecraft,
-- virtual channel, frame counts, first packet start and data field.
pub record FitFrame (format : TmFormat) (spacecraft vc mc vcc : ℕ) (first : Option ℕ) (field : List ℕ) : Type 0 where
  -- the lengths that `TmShape::new` takes, 32 to 2048
  pub least : 32 ≤ format.len
  pub most : format.len ≤ 2048
  pub spacecraft_fits : spacecraft ≤ 1023
  pub vc_fits : vc ≤ 7
  pub mc_fits : mc < 256
  pub vcc_fits : vcc < 256
  pub points_inside : IfSome first (λ offset. offset < field_room_of format)
  pub fills : length field ≡ field_room_of format

-- the view that a reader has of the frame: its content is packets, in these octets `field`
abbrev pub packet_view : ℕ → ℕ → ℕ → Option ℕ → List ℕ → TmView
packet_view vc mc vcc first field =
    record {
      vc = vc;
      mc_count = mc;
      vc_count = vcc;
      control = None;
      field = Packets first field;
    }

-- A frame of packets has the length of its format.
abbrev pub PacketFramesAreWhole : Type 0
PacketFramesAreWhole =
    (format : TmFormat) (spacecraft vc mc vcc : ℕ) (first : Option ℕ) (field : List ℕ)
    → FitFrame format spacecraft vc mc vcc first field
    → length (packet_frame format spacecraft vc mc vcc first field) ≡ format.len

-- A frame of packets is read back as it was made: `tm_frame` takes the octets that `packet_frame`
-- makes to the view with the same values.
abbrev pub PacketFramesAreReadBack : Type 0
PacketFramesAreReadBack =
    (format : TmFormat) (spacecraft vc mc vcc : ℕ) (first : Option ℕ) (field : List ℕ)
    → FitFrame format spacecraft vc mc vcc first field
    → tm_frame format spacecraft (packet_frame format spacecraft vc mc vcc first field)
    ≡ Ok (packet_view vc mc vcc first field)
