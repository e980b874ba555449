-- The TM transfer frame, CCSDS 132.0-B: its parts, why a frame is skipped, and what a frame
-- carries. This project's choices are marked so. One of them is that the packet order flag, the
-- segment length identifier and the master channel frame count are not checked. The virtual channel
-- frame count is checked elsewhere: where frames of a channel are joined (`sl_tmflow`).
use Rattle.std.specs.Prelude.{◌≡◌, ◌≢◌, ◌⊎◌, ⊤, ℕ, ◌+◌, ◌-◌, ◌<◌, ◌≤◌, ◌==◌, nat_lt, Bool, true, false, not, ◌&&◌, ◌||◌, if◌then◌else◌, List, ◌++◌, length, take, drop, Option, None, Some, IfSome, Result, Ok, Err}
use Rattle.sl_fields.specs.Field.{number_of}
use Rattle.sl_fields.specs.Fecf.{fecf_of, fecf_is_good}
use Rattle.sl_fields.specs.FecfField.{fecf_len}
use Rattle.sl_fields.specs.TmHeader.{TmFields, tm_header}
use Rattle.sl_tmframe.specs.declared.tm_frame.TmSkip.{TmSkip}
use Rattle.sl_tmframe.specs.declared.tm_frame.TmSkip.TheVariants.{Fecf, Version, Spacecraft}

-- The managed format of a physical channel's frames: the length of every frame, and whether the
-- last two octets of a frame are a frame error control field. All frames of a recording have this
-- one length: this project's choice. In code this is a `TmShape`.
pub record TmFormat : Type 0 where
  pub len : ℕ
  pub fecf : Bool

-- ---- the parts

-- the octets of each part of a frame; `field` is the data field
pub record TmParts : Type 0 where
  pub header : List ℕ
  pub field : List ℕ
  pub control : List ℕ
  pub fecf : List ℕ

-- These are the parts of a frame. The primary header has six octets, and the data field follows.
-- Then comes the operational control field: four octets where the header's own flag says that there
-- is one, and none otherwise. The frame error control field is last: two octets where the format
-- has it, and none otherwise.
pub record ArePartsOf (format : TmFormat) (frame : List ℕ) (p : TmParts) : Type 0 where
  pub whole : length frame ≡ format.len
  pub in_order : frame ≡ p.header ++ p.field ++ p.control ++ p.fecf
  pub header : length p.header ≡ 6
  pub control : length p.control ≡ (if (tm_header p.header).control then 4 else 0)
  pub fecf : length p.fecf ≡ fecf_len format.fecf

-- the fields of the header at the front of a frame
abbrev pub tm_header_of : List ℕ → TmFields
tm_header_of frame = tm_header (take 6 frame)

-- how many octets the operational control field has
abbrev pub control_len : List ℕ → ℕ
control_len frame = if (tm_header_of frame).control then 4 else 0

-- how many octets the data field has
abbrev pub field_len : TmFormat → List ℕ → ℕ
field_len format frame = length frame - 6 - control_len frame - fecf_len format.fecf

-- the parts, by their places in the frame
abbrev pub tm_parts_of : TmFormat → List ℕ → TmParts
tm_parts_of format frame =
    record {
      header = take 6 frame;
      field = take (field_len format frame) (drop 6 frame);
      control = take (control_len frame) (drop (6 + field_len format frame) frame);
      fecf = drop (6 + field_len format frame + control_len frame) frame;
    }

-- ---- whether a frame is skipped

-- Why a frame of these parts is skipped. `Fecf`: the format has a frame error control field, and
-- its number isn't the one for the octets before it. `Version`: the transfer frame version number
-- isn't 0. `Spacecraft`: the spacecraft identifier is another than the one that frames are read
-- for.
abbrev pub HasReason : TmFormat → ℕ → TmParts → TmSkip → Type 0
HasReason format spacecraft p Fecf =
    (format.fecf ≡ true) × (number_of p.fecf ≢ fecf_of (p.header ++ p.field ++ p.control))
HasReason format spacecraft p Version = (tm_header p.header).version ≢ 0
HasReason format spacecraft p Spacecraft = (tm_header p.header).spacecraft ≢ spacecraft

-- the reasons in their order, the first one first
abbrev pub order_of : TmSkip → ℕ
order_of Fecf = 1
order_of Version = 2
order_of Spacecraft = 3

-- ---- what a frame carries

-- The content of a data field, by the class of the frame. `Packets`: octets of packets; the first
-- packet that starts in the field, if one does, starts at the offset `first`. `Idle`: only idle
-- data. `Opaque`: a data field that isn't read. In code this is a `TmField`. The `field` of a
-- `TmView` is such a content; elsewhere `field` is the octets of the data field.
pub data DataField : Type 0 where
  Packets : (first : Option ℕ) (octets : List ℕ) → DataField
  Idle : DataField
  Opaque : DataField

-- First header pointers 2046 and 2047 have a meaning of their own. Any other pointer is an offset
-- in the data field.
abbrev pub IsOffset : ℕ → Type 0
IsOffset pointer = (pointer ≢ 2046) × (pointer ≢ 2047)

-- What the pointer says of a data field of packets. Pointer 2047 says that no packet starts in the
-- field. An offset before the end of the field says that the first packet starts at this offset.
abbrev pub PointsTo : ℕ → List ℕ → Option ℕ → Type 0
PointsTo pointer field None = pointer ≡ 2047
PointsTo pointer field (Some start) = IsOffset pointer × (pointer < length field) × (start ≡ pointer)

-- The class of a data field, in a frame with this header. The frame is opaque where the secondary
-- header flag or the synchronisation flag is 1, or where the pointer is an offset at or past the
-- end of the data field; this class is this project's choice. Where both flags are 0, pointer 2046
-- says that there is only idle data. Where both flags are 0, and the pointer is 2047 or an offset
-- before the end, the data field is of packets.
abbrev pub HasClass : TmFields → List ℕ → DataField → Type 0
HasClass h field Opaque = (h.secondary ≡ true) ⊎ (h.sync ≡ true) ⊎ (IsOffset h.first × (length field ≤ h.first))
HasClass h field Idle = (h.secondary ≡ false) × (h.sync ≡ false) × (h.first ≡ 2046)
HasClass h field (Packets first octets) =
    (h.secondary ≡ false) × (h.sync ≡ false) × PointsTo h.first field first × (octets ≡ field)

-- the view that a reader has of a frame
pub record TmView : Type 0 where
  pub vc : ℕ
  pub mc_count : ℕ
  pub vc_count : ℕ
  pub control : Option (List ℕ)
  pub field : DataField

-- a view has the operational control field exactly where the header's own flag says that there is
-- one
abbrev pub ShowsControl : Bool → List ℕ → Option (List ℕ) → Type 0
ShowsControl flag control None = flag ≡ false
ShowsControl flag control (Some shown) = (flag ≡ true) × (shown ≡ control)

-- this is the view of a frame of these parts
pub record Shows (p : TmParts) (view : TmView) : Type 0 where
  pub vc : view.vc ≡ (tm_header p.header).vc
  pub mc_count : view.mc_count ≡ (tm_header p.header).mc
  pub vc_count : view.vc_count ≡ (tm_header p.header).vcc
  pub control : ShowsControl (tm_header p.header).control p.control view.control
  -- `p.field` is the octets of the data field, and `view.field` is their content
  pub field : HasClass (tm_header p.header) p.field view.field

-- ---- a frame as it is read for a spacecraft

-- A frame of these parts is skipped for the first reason that holds, and is read where no reason
-- holds.
abbrev pub AreReadAs : TmFormat → ℕ → TmParts → Result TmView TmSkip → Type 0
AreReadAs format spacecraft p (Ok view) = ((reason : TmSkip) → HasReason format spacecraft p reason → ⊥) × Shows p view
AreReadAs format spacecraft p (Err reason) =
    HasReason format spacecraft p reason
    × ((earlier : TmSkip) → order_of earlier < order_of reason → HasReason format spacecraft p earlier → ⊥)

-- The frame has these parts, and is read with this result. The law `tm_frames_are_read` says that
-- the parts are those of `tm_parts_of`, that the result is that of `tm_frame`, and that there are
-- no others.
pub record IsReadAs (format : TmFormat) (spacecraft : ℕ) (frame : List ℕ) (p : TmParts)
    (read : Result TmView TmSkip) : Type 0 where
  pub parts : ArePartsOf format frame p
  pub reading : AreReadAs format spacecraft p read

-- ---- the reading, as functions of the octets

-- the first reason to skip the frame, if one holds
abbrev pub skip_reason : TmFormat → ℕ → List ℕ → Option TmSkip
skip_reason format spacecraft frame =
    if format.fecf && not (fecf_is_good frame) then Some Fecf
    else if not ((tm_header_of frame).version == 0) then Some Version
    else if not ((tm_header_of frame).spacecraft == spacecraft) then Some Spacecraft
    else None

-- whether a frame with this header and this data field is opaque
abbrev pub reads_as_opaque : TmFields → List ℕ → Bool
reads_as_opaque header field =
    (header.secondary || header.sync)
    || (not (header.first == 2046) && not (header.first == 2047) && not (nat_lt header.first (length field)))

-- the content of a data field, by its class in a frame with this header
abbrev pub content_of_field : TmFields → List ℕ → DataField
content_of_field header field =
    if reads_as_opaque header field then Opaque
    else if header.first == 2046 then Idle
    else if header.first == 2047 then Packets None field
    else Packets (Some header.first) field

-- the operational control field, where there is one
abbrev pub control_of : TmFormat → List ℕ → Option (List ℕ)
control_of format frame = if (tm_header_of frame).control then Some (tm_parts_of format frame).control else None

-- the view of the frame
abbrev pub view_of : TmFormat → List ℕ → TmView
view_of format frame =
    record {
      vc = (tm_header_of frame).vc;
      mc_count = (tm_header_of frame).mc;
      vc_count = (tm_header_of frame).vcc;
      control = control_of format frame;
      field = content_of_field (tm_header_of frame) (tm_parts_of format frame).field;
    }

-- the reason to skip the frame, if there is one, and otherwise its view
abbrev pub read_as : Option TmSkip → TmView → Result TmView TmSkip
read_as None view = Ok view
read_as (Some reason) view = Err reason

-- the frame as it is read for a spacecraft, from its octets: its view, or the reason to skip it;
-- `packet_frame` goes the other way, to the octets of a frame of packets
abbrev pub tm_frame : TmFormat → ℕ → List ℕ → Result TmView TmSkip
tm_frame format spacecraft frame = read_as (skip_reason format spacecraft frame) (view_of format frame)

-- ---- ranges

-- the octets of the longest data field: those of the longest frame without its header
abbrev pub longest_field : ℕ
longest_field = 2042

-- a data field of packets is no longer than that, and the first packet start lies in it
abbrev pub IsFieldInRange : DataField → Type 0
IsFieldInRange (Packets first octets) = IfSome first (λ start. start < length octets) × (length octets ≤ longest_field)
IsFieldInRange Idle = ⊤
IsFieldInRange Opaque = ⊤

-- the virtual channel is 0 to 7, and the data field is in range
pub record IsInRange (view : TmView) : Type 0 where
  pub vc : view.vc ≤ 7
  pub field : IsFieldInRange view.field

-- ---- laws

-- Octets of the format's length, if this is 12 or more, have the parts that `tm_parts_of` computes.
-- All parts but the data field have at most 12 octets together.
abbrev pub EachHasParts : Type 0
EachHasParts =
    (format : TmFormat) (frame : List ℕ) → 12 ≤ format.len → length frame ≡ format.len
    → ArePartsOf format frame (tm_parts_of format frame)

-- Octets have no other parts than those that `tm_parts_of` computes.
abbrev pub HasPartsOnce : Type 0
HasPartsOnce =
    (format : TmFormat) (frame : List ℕ) (p : TmParts) → ArePartsOf format frame p → tm_parts_of format frame ≡ p

-- Octets of the format's length, if this is 12 or more, are read or skipped as `tm_frame` computes.
abbrev pub EachIsRead : Type 0
EachIsRead =
    (format : TmFormat) (spacecraft : ℕ) (frame : List ℕ) → 12 ≤ format.len → length frame ≡ format.len
    → IsReadAs format spacecraft frame (tm_parts_of format frame) (tm_frame format spacecraft frame)

-- Octets are read or skipped in no other way than `tm_frame` computes.
abbrev pub IsReadOnce : Type 0
IsReadOnce =
    (format : TmFormat) (spacecraft : ℕ) (frame : List ℕ) (p : TmParts) (read : Result TmView TmSkip)
    → IsReadAs format spacecraft frame p read
    → (tm_parts_of format frame ≡ p) × (tm_frame format spacecraft frame ≡ read)
