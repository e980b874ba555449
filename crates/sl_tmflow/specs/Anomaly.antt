-- Anomalies at the next frame of a virtual channel, CCSDS 132.0-B: a gap in the virtual channel
-- frame counts before the frame, an incomplete packet that the frame breaks off, and octets of
-- another packet version than 0 at a packet start of the frame. A law whose name says "told" is on
-- what an extractor or a counter reports.
use Rattle.std.specs.Prelude.{◌≡◌, ◌≢◌, ℕ, ◌+◌, ◌%◌, ◌<◌, ◌≤◌, Bool, true, false, if◌then◌else◌, List, [], ◌∷◌, ◌++◌, length, drop, Option, None, Some}
use Rattle.std.specs.List.{AllByRecursion, concat, flat_map, list_any}
use Rattle.sl_packet.specs.Front.{is_foreign}
use Rattle.sl_packet.specs.Packet.{version_of}
use Rattle.sl_tmframe.specs.TmFrame.{TmView, DataField, Packets}
use Rattle.sl_tmflow.specs.Among.{IsAmong}
use Rattle.sl_tmflow.specs.VirtualChannel.{data_of, follows, is_consecutive, last_count, packet_data}
use Rattle.sl_tmflow.specs.Delivery.{Delivery, IsDelivery, Outcome, Completes, StillIncomplete, Undelivered, outcome_of}
use Rattle.sl_tmflow.specs.Incomplete.{IsIncompleteAt, IsShort}
use Rattle.sl_tmflow.specs.PacketStart.{IsStart, starts_of}

-- ---- gaps

-- The virtual channel frame count of the next frame isn't the expected one, which is the count of
-- the channel's last frame plus 1, modulo 256.
pub record IsGap (channel : List TmView) (next : TmView) (expected : ℕ) : Type 0 where
  pub earlier : List TmView
  pub last : TmView
  pub in_order : channel ≡ earlier ++ last ∷ []
  pub broken : is_consecutive last next ≡ false
  pub value : expected ≡ (last.vc_count + 1) % 256

-- the count that was expected after the last one, where `count` is another; none before the first
-- frame
abbrev pub gap_after : Option ℕ → ℕ → Option ℕ
gap_after None count = None
gap_after (Some last) count = if follows last count then None else Some ((last + 1) % 256)

-- the count that was expected after a channel's last frame, where the next frame has another one
abbrev pub gap_of : List TmView → TmView → Option ℕ
gap_of channel next = gap_after (last_count channel) next.vc_count

-- ---- packets that are broken off

-- A packet is broken off: it is incomplete after the channel's last frame, with these octets so
-- far, and after the next frame it is neither incomplete nor delivered in this frame.
pub record IsBrokenOff (channel : List TmView) (next : TmView) (octets : List ℕ) : Type 0 where
  pub frame : ℕ
  pub start : ℕ
  pub before : IsIncompleteAt channel frame start octets
  pub not_incomplete : (later : List ℕ) → IsIncompleteAt (channel ++ next ∷ []) frame start later → ⊥
  pub not_delivered :
      (d : Delivery) → IsDelivery (channel ++ next ∷ []) d → d.frame ≡ frame → d.start ≡ start
      → d.ending ≡ length channel → ⊥

-- the octets so far of the packet of a packet start, if the next frame breaks this packet off: by
-- the outcome of the packet start without the next frame, and with it
abbrev pub broken_octets : Outcome → Outcome → List (List ℕ)
broken_octets (Completes packet passed) after = []
broken_octets (StillIncomplete octets) (Completes packet passed) = []
broken_octets (StillIncomplete octets) (StillIncomplete later) = []
broken_octets (StillIncomplete octets) Undelivered = octets ∷ []
broken_octets Undelivered after = []

-- the packets that start in the frame `view` and are broken off by the frame `next`, where the
-- frames `later` come between these two
abbrev pub frame_broken : TmView → List TmView → TmView → List (List ℕ)
frame_broken view later next =
    flat_map (λ start. broken_octets (outcome_of view (drop start (packet_data view)) later)
    (outcome_of view (drop start (packet_data view)) (later ++ next ∷ [])))
    (starts_of view.field)

-- the packets of a channel that the next frame breaks off, each by its octets so far, in order of
-- frame and packet start
abbrev pub broken_off : List TmView → TmView → List (List ℕ)
broken_off [] next = []
broken_off (view ∷ later) next = frame_broken view later next ++ broken_off later next

-- how many octets so far the packets have that the next frame breaks off
abbrev pub dropped_of : List TmView → TmView → ℕ
dropped_of channel next = length (concat (broken_off channel next))

-- ---- octets of another packet version

-- octets of another version than 0 stand at a packet start of the data field
pub record HasForeignStart (field : DataField) : Type 0 where
  pub first : Option ℕ
  pub octets : List ℕ
  pub carries : field ≡ Packets first octets
  pub start : ℕ
  pub is_start : IsStart octets first start
  pub version : version_of (drop start octets) ≢ 0

-- the test whether octets of another version than 0 stand at a packet start of the data field
abbrev pub foreign_of : DataField → Bool
foreign_of field = list_any (λ start. is_foreign (drop start (data_of field))) (starts_of field)

-- ---- laws

-- A gap before the next frame is reported, with the count that was expected.
abbrev pub EachGapIsTold : Type 0
EachGapIsTold =
    (channel : List TmView) (next : TmView) (expected : ℕ) → IsGap channel next expected
    → gap_of channel next ≡ Some expected

-- A count is reported only at a gap.
abbrev pub EachToldIsAGap : Type 0
EachToldIsAGap =
    (channel : List TmView) (next : TmView) (expected : ℕ) → gap_of channel next ≡ Some expected
    → IsGap channel next expected

-- Each listed packet is broken off.
abbrev pub EachListedIsBrokenOff : Type 0
EachListedIsBrokenOff =
    (channel : List TmView) (next : TmView) → AllByRecursion (IsBrokenOff channel next) (broken_off channel next)

-- Each packet that is broken off is listed.
abbrev pub EachBrokenOffIsListed : Type 0
EachBrokenOffIsListed =
    (channel : List TmView) (next : TmView) (octets : List ℕ) → IsBrokenOff channel next octets
    → IsAmong octets (broken_off channel next)

-- At most one packet is broken off by a frame.
abbrev pub OneIsBrokenOff : Type 0
OneIsBrokenOff = (channel : List TmView) (next : TmView) → length (broken_off channel next) ≤ 1

-- A packet that is broken off has 1 to 65,541 octets so far.
abbrev pub BrokenOffIsShort : Type 0
BrokenOffIsShort = (channel : List TmView) (next : TmView) → AllByRecursion IsShort (broken_off channel next)

-- The octets that are reported as dropped are as many as the broken-off packet has.
abbrev pub BrokenOffIsTold : Type 0
BrokenOffIsTold =
    (channel : List TmView) (next : TmView) (octets : List ℕ) → IsBrokenOff channel next octets
    → dropped_of channel next ≡ length octets

-- Where octets are reported as dropped, there is a broken-off packet.
abbrev pub WhatIsToldIsBrokenOff : Type 0
WhatIsToldIsBrokenOff =
    (channel : List TmView) (next : TmView) → 0 < dropped_of channel next
    → (octets : List ℕ) × IsBrokenOff channel next octets

-- Octets of another version at a packet start of a data field are reported.
abbrev pub EachForeignStartIsTold : Type 0
EachForeignStartIsTold = (field : DataField) → HasForeignStart field → foreign_of field ≡ true

-- Octets of another version are reported only where a data field has them at a packet start.
abbrev pub EachToldIsAForeignStart : Type 0
EachToldIsAForeignStart = (field : DataField) → foreign_of field ≡ true → HasForeignStart field
