-- The TC transfer frame, CCSDS 232.0-B: its parts, why a frame is skipped, and what a frame
-- carries. The spare bits of the header, and N(S) of types BD and BC, are ignored. To ignore them
-- is this project's choice. Such choices are marked so here.
use Rattle.std.specs.Prelude.{◌≡◌, ◌≢◌, ⊤, ℕ, ◌+◌, ◌-◌, ◌<◌, ◌≤◌, ◌==◌, nat_lt, Bool, true, false, not, ◌&&◌, if◌then◌else◌, List, [], ◌∷◌, ◌++◌, length, take, drop, Option, None, Some, Result, Ok, Err}
use Rattle.sl_fields.specs.Fecf.{fecf_is_good}
use Rattle.sl_fields.specs.FecfField.{fecf_len}
use Rattle.sl_fields.specs.TcHeader.{TcFields, tc_header}
use Rattle.sl_tcframe.specs.declared.tc_frame.TcSkip.{TcSkip}
use Rattle.sl_tcframe.specs.declared.tc_frame.TcSkip.TheVariants.{Fecf, Version, Spacecraft, Long, Kind, Empty, Command}

-- The managed format of a physical channel's frames: the greatest length of a frame, and whether
-- the last two octets of a frame are a frame error control field.
pub record TcFormat : Type 0 where
  pub max : ℕ
  pub fecf : Bool

-- ---- the parts

-- the octets of a frame, in three parts
pub record TcParts : Type 0 where
  pub header : List ℕ
  pub field : List ℕ
  pub fecf : List ℕ

-- The octets of the frame are divided into these parts. The primary header has five octets, and the
-- data field follows. The frame error control field is last: two octets where the format has one,
-- and none otherwise. The frame length field states the octets of the whole frame minus 1.
pub record ArePartsOf (format : TcFormat) (frame : List ℕ) (p : TcParts) : Type 0 where
  pub in_order : frame ≡ p.header ++ p.field ++ p.fecf
  pub header : length p.header ≡ 5
  pub fecf : length p.fecf ≡ fecf_len format.fecf
  pub stated : length frame ≡ (tc_header p.header).length + 1

-- the header at the front of a frame
abbrev pub tc_header_of : List ℕ → TcFields
tc_header_of frame = tc_header (take 5 frame)

-- the least length of a frame: how many octets a frame without a data field has
abbrev pub least_of : TcFormat → ℕ
least_of format = 5 + fecf_len format.fecf

-- how many octets the frame that begins with these octets has, by its frame length field
abbrev pub stated_frame_len : List ℕ → ℕ
stated_frame_len octets = (tc_header_of octets).length + 1

-- Whether octets are one frame as the delimiting cuts it out of a recording: no fewer than the
-- least length, and as many as their frame length field states. The pages and laws call this "one
-- frame by its frame length field", and `AdFramesAreWhole` calls it whole.
abbrev pub is_cut : TcFormat → List ℕ → Bool
is_cut format octets = not (nat_lt (length octets) (least_of format)) && length octets == stated_frame_len octets

-- how many octets the data field of a frame has
abbrev pub field_len : TcFormat → List ℕ → ℕ
field_len format frame = length frame - 5 - fecf_len format.fecf

-- the parts of a frame, by their places in it
abbrev pub tc_parts_of : TcFormat → List ℕ → TcParts
tc_parts_of format frame =
    record {
      header = take 5 frame;
      field = take (field_len format frame) (drop 5 frame);
      fecf = drop (5 + field_len format frame) frame;
    }

-- ---- what a frame carries

-- The content of a frame. A frame of type AD or BD carries a unit, its whole data field. A unit
-- begins with a segment header, except on virtual channels without segment headers. A frame of type
-- BC carries a control command for FARM-1: Unlock, or Set V(R) with the value to set.
pub data Content : Type 0 where
  Ad : (ns : ℕ) (unit : List ℕ) → Content
  Bd : (unit : List ℕ) → Content
  Unlock : Content
  SetVr : (vr : ℕ) → Content

-- A data field has this content under this header. The bypass flag and the control command flag are
-- the type: 0 and 0 is AD, 1 and 0 is BD, 1 and 1 is BC. N(S) matters in type AD alone. N(S) of the
-- other types, and the spare bits of all types, are ignored: this project's choice. A unit has one
-- octet or more. Unlock is one octet of zeros, and Set V(R) is `82 00` and the value.
abbrev pub Carries : TcFields → List ℕ → Content → Type 0
Carries h field (Ad ns unit) =
    (h.bypass ≡ false) × (h.command ≡ false) × (field ≢ []) × (ns ≡ h.ns) × (unit ≡ field)
Carries h field (Bd unit) = (h.bypass ≡ true) × (h.command ≡ false) × (field ≢ []) × (unit ≡ field)
Carries h field Unlock = (h.bypass ≡ true) × (h.command ≡ true) × (field ≡ 0x00 ∷ [])
Carries h field (SetVr vr) = (h.bypass ≡ true) × (h.command ≡ true) × (field ≡ 0x82 ∷ 0x00 ∷ vr ∷ [])

-- ---- whether a frame is skipped

-- Why a frame is skipped: a wrong error control field where the format has one; another version
-- than 0; another spacecraft; more octets than the managed greatest length; the control command
-- flag without the bypass flag; no data field; or type BC without a control command. `Fecf` tests
-- the whole octets. (In TM it tests the part `fecf`.) The reason: `EachIsRead`, below, holds of any
-- octets, also of fewer than a frame has, and of those the part `fecf` isn't the last two octets.
abbrev pub HasReason : TcFormat → ℕ → List ℕ → TcSkip → Type 0
HasReason format spacecraft frame Fecf = (format.fecf ≡ true) × (fecf_is_good frame ≡ false)
HasReason format spacecraft frame Version = (tc_header_of frame).version ≢ 0
HasReason format spacecraft frame Spacecraft = (tc_header_of frame).spacecraft ≢ spacecraft
HasReason format spacecraft frame Long = format.max < length frame
HasReason format spacecraft frame Kind = ((tc_header_of frame).bypass ≡ false) × ((tc_header_of frame).command ≡ true)
HasReason format spacecraft frame Empty = (tc_parts_of format frame).field ≡ []
HasReason format spacecraft frame Command =
    ((tc_header_of frame).bypass ≡ true) × ((tc_header_of frame).command ≡ true)
    × ((content : Content) → Carries (tc_header_of frame) (tc_parts_of format frame).field content → ⊥)

-- the place of a reason in the order: of several reasons that hold, a frame is skipped for the one
-- with the least number
abbrev pub order_of : TcSkip → ℕ
order_of Fecf = 1
order_of Version = 2
order_of Spacecraft = 3
order_of Long = 4
order_of Kind = 5
order_of Empty = 6
order_of Command = 7

-- ---- a frame as it is read for a spacecraft

-- what is read of a frame: its virtual channel and its content
pub record TcView : Type 0 where
  pub vc : ℕ
  pub content : Content

-- A frame is read where no reason to skip it holds, with its virtual channel and its content.
-- Otherwise it is skipped for the first reason that holds, in the order of `order_of`.
abbrev pub IsReadAs : TcFormat → ℕ → List ℕ → Result TcView TcSkip → Type 0
IsReadAs format spacecraft frame (Ok view) =
    ((reason : TcSkip) → HasReason format spacecraft frame reason → ⊥) × (view.vc ≡ (tc_header_of frame).vc)
    × Carries (tc_header_of frame) (tc_parts_of format frame).field view.content
IsReadAs format spacecraft frame (Err reason) =
    HasReason format spacecraft frame reason
    × ((earlier : TcSkip) → order_of earlier < order_of reason → HasReason format spacecraft frame earlier → ⊥)

-- ---- the reading, as functions of the octets

-- The law `tc_frames_are_read` says that `tc_frame` is the reading of a frame, and that there is no
-- other.

-- the control command of a data field, if it is one
abbrev pub command_of : List ℕ → Option Content
command_of [] = None
command_of (code ∷ []) = if code == 0x00 then Some Unlock else None
command_of (code ∷ second ∷ []) = None
command_of (code ∷ second ∷ third ∷ []) = if code == 0x82 && second == 0x00 then Some (SetVr third) else None
command_of (code ∷ second ∷ third ∷ fourth ∷ more) = None

-- the unit of a data field in a frame of type AD or BD, if it isn't empty
abbrev pub unit_content : TcFields → List ℕ → Option Content
unit_content h [] = None
unit_content h (octet ∷ octets) = Some (if h.bypass then Bd (octet ∷ octets) else Ad h.ns (octet ∷ octets))

-- the content of a data field, if it has one
abbrev pub content_of : TcFields → List ℕ → Option Content
content_of h field =
    if not h.command then unit_content h field
    else if h.bypass then command_of field
    else None

-- the first reason other than `Command` that holds, if one does; where none does, `read_as` answers
-- `Command` for a frame whose `content_of` is `None`
abbrev pub early_reason : TcFormat → ℕ → List ℕ → Option TcSkip
early_reason format spacecraft frame =
    if format.fecf && not (fecf_is_good frame) then Some Fecf
    else if not ((tc_header_of frame).version == 0) then Some Version
    else if not ((tc_header_of frame).spacecraft == spacecraft) then Some Spacecraft
    else if nat_lt format.max (length frame) then Some Long
    else if not (tc_header_of frame).bypass && (tc_header_of frame).command then Some Kind
    else if length (tc_parts_of format frame).field == 0 then Some Empty
    else None

-- The last of these reasons, by the header and the data field: where there is a content, neither holds. Contracts of
-- private functions alone cite this.
abbrev pub late_reason : TcFields → List ℕ → Option TcSkip
late_reason h field =
    if not h.bypass && h.command then Some Kind
    else if length field == 0 then Some Empty
    else None

-- What is read of a frame. The arguments are the first reason other than `Command` to skip it, if
-- one holds; its header; and the content of its data field, if there is one. Without such a reason
-- and without a content the frame is skipped for `Command`.
abbrev pub read_as : Option TcSkip → TcFields → Option Content → Result TcView TcSkip
read_as (Some reason) h content = Err reason
read_as None h (Some content) = Ok (record { vc = h.vc; content = content })
read_as None h None = Err Command

-- the frame as it is read for a spacecraft: what is read, or the reason to skip it
abbrev pub tc_frame : TcFormat → ℕ → List ℕ → Result TcView TcSkip
tc_frame format spacecraft frame =
    read_as (early_reason format spacecraft frame) (tc_header_of frame)
    (content_of (tc_header_of frame) (tc_parts_of format frame).field)

-- ---- ranges

-- the octets of the longest unit: those of the longest frame without its header
abbrev pub longest_unit : ℕ
longest_unit = 1019

-- a unit has 1 to 1019 octets: at least one, and at most as many as the longest one
abbrev pub IsContent : Content → Type 0
IsContent (Ad ns unit) = (0 < length unit) × (length unit ≤ longest_unit)
IsContent (Bd unit) = (0 < length unit) × (length unit ≤ longest_unit)
IsContent Unlock = ⊤
IsContent (SetVr vr) = ⊤

-- each frame that is read has a virtual channel up to 63, and a content in range
pub record IsInRange (view : TcView) : Type 0 where
  pub vc : view.vc ≤ 63
  pub content : IsContent view.content

-- ---- laws

-- Octets that are one frame by their frame length field have these parts.
abbrev pub EachHasParts : Type 0
EachHasParts =
    (format : TcFormat) (frame : List ℕ) → is_cut format frame ≡ true
    → ArePartsOf format frame (tc_parts_of format frame)

-- Octets have no other parts.
abbrev pub HasPartsOnce : Type 0
HasPartsOnce =
    (format : TcFormat) (frame : List ℕ) (p : TcParts) → ArePartsOf format frame p → tc_parts_of format frame ≡ p

-- No other octets have parts.
abbrev pub OnlyFramesHaveParts : Type 0
OnlyFramesHaveParts =
    (format : TcFormat) (frame : List ℕ) (p : TcParts) → ArePartsOf format frame p → is_cut format frame ≡ true

-- Any octets, one frame or not, are read or skipped as `IsReadAs` says.
abbrev pub EachIsRead : Type 0
EachIsRead =
    (format : TcFormat) (spacecraft : ℕ) (frame : List ℕ)
    → IsReadAs format spacecraft frame (tc_frame format spacecraft frame)

-- Octets are read or skipped in no other way.
abbrev pub IsReadOnce : Type 0
IsReadOnce =
    (format : TcFormat) (spacecraft : ℕ) (frame : List ℕ) (read : Result TcView TcSkip)
    → IsReadAs format spacecraft frame read → tc_frame format spacecraft frame ≡ read
