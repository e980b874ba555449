-- Incomplete packets of a virtual channel, CCSDS 132.0-B: they start in one of its frames and go on
-- past the last one. The first header pointer of each later frame has to agree with the packet:
-- this project's choice.
use Rattle.std.specs.Prelude.{◌≡◌, ◌≢◌, ℕ, ◌<◌, ◌≤◌, List, [], ◌∷◌, ◌++◌, length, drop, Option, None}
use Rattle.std.specs.List.{AllByRecursion, concat, flat_map}
use mathlib.Core.List.{IsPrefix}
use Rattle.sl_packet.specs.Packet.{version_of, IsPacket}
use Rattle.sl_tmframe.specs.TmFrame.{TmView, Packets, Opaque}
use Rattle.sl_tmflow.specs.Among.{IsAmong}
use Rattle.sl_tmflow.specs.VirtualChannel.{AreConsecutive, packet_data, reassembly}
use Rattle.sl_tmflow.specs.Delivery.{Outcome, Completes, StillIncomplete, Undelivered, outcome_of}
use Rattle.sl_tmflow.specs.PacketStart.{IsStart, starts_of}

-- ---- the relation

-- no packet starts in the frame: where the frame is of packets, its first header pointer says so
abbrev pub HasNoStart : TmView → Type 0
HasNoStart view = (first : Option ℕ) (field : List ℕ) → view.field ≡ Packets first field → first ≡ None

-- A packet that starts in a frame of the channel is incomplete after the channel's last frame, with
-- these octets so far.
pub record IsIncomplete (channel : List TmView) (octets : List ℕ) : Type 0 where
  -- the frame, and the run of later frames up to the last one
  pub before : List TmView
  pub view : TmView
  pub run : List TmView
  pub in_order : channel ≡ before ++ view ∷ run
  -- the packet's start
  pub first : Option ℕ
  pub field : List ℕ
  pub carries : view.field ≡ Packets first field
  pub offset : ℕ
  pub start : IsStart field first offset
  -- the octets from the start on may begin a packet, but no packet is whole yet
  pub came : octets ≡ reassembly (drop offset field) run
  pub version : version_of octets ≡ 0
  pub no_packet : (packet : List ℕ) → IsPacket packet → IsPrefix packet octets → ⊥
  -- the virtual channel frame counts of the run are consecutive
  pub consecutive : AreConsecutive view run
  -- no frame of the run is opaque
  pub none_opaque : AllByRecursion (λ next. next.field ≢ Opaque) run
  -- the pointer of each frame of packets agrees with the packet, which covers the data field:
  -- this project's choice
  pub no_start : AllByRecursion HasNoStart run

-- The packet that starts in the frame with this number, counted from 0 in the channel, at this
-- offset in the frame's data field, is incomplete after the channel's last frame. This record adds
-- only these two numbers to `IsIncomplete`.
pub record IsIncompleteAt (channel : List TmView) (frame start : ℕ) (octets : List ℕ) : Type 0 where
  pub incomplete : IsIncomplete channel octets
  pub in_frame : frame ≡ length incomplete.before
  pub at : start ≡ incomplete.offset

-- ---- the octets so far of the incomplete packets, listed

-- the octets so far of the packet of a packet start, if the outcome is that the packet is still
-- incomplete
abbrev pub incomplete_octets : Outcome → List (List ℕ)
incomplete_octets (Completes packet passed) = []
incomplete_octets (StillIncomplete octets) = octets ∷ []
incomplete_octets Undelivered = []

-- the incomplete packets that start in the frame `view`, where the frames `later` come after it
abbrev pub frame_incomplete : TmView → List TmView → List (List ℕ)
frame_incomplete view later =
    flat_map (λ start. incomplete_octets (outcome_of view (drop start (packet_data view)) later)) (starts_of view.field)

-- the incomplete packets of a channel, each by its octets so far, in order of frame and packet
-- start
abbrev pub incomplete_of : List TmView → List (List ℕ)
incomplete_of [] = []
incomplete_of (view ∷ later) = frame_incomplete view later ++ incomplete_of later

-- ---- laws

-- Each listed packet is incomplete.
abbrev pub EachListedIsIncomplete : Type 0
EachListedIsIncomplete = (channel : List TmView) → AllByRecursion (IsIncomplete channel) (incomplete_of channel)

-- Each incomplete packet is listed.
abbrev pub EachIncompleteIsListed : Type 0
EachIncompleteIsListed =
    (channel : List TmView) (octets : List ℕ) → IsIncomplete channel octets → IsAmong octets (incomplete_of channel)

-- At most one packet start of a channel has a packet that is incomplete after the channel's last
-- frame. Any two packet starts with incomplete packets are the same one: in the same frame, at the
-- same offset and with the same octets so far.
abbrev pub OneStartIsIncomplete : Type 0
OneStartIsIncomplete =
    (channel : List TmView) (frame start : ℕ) (octets : List ℕ) (other_frame other_start : ℕ) (others : List ℕ)
    → IsIncompleteAt channel frame start octets → IsIncompleteAt channel other_frame other_start others
    → (frame ≡ other_frame) × (start ≡ other_start) × (octets ≡ others)

-- At most one packet is listed.
abbrev pub OneIsIncomplete : Type 0
OneIsIncomplete = (channel : List TmView) → length (incomplete_of channel) ≤ 1

-- the octets of the longest incomplete packet: one less than the longest packet has
abbrev pub longest_incomplete : ℕ
longest_incomplete = 65541

-- as many octets as an incomplete packet may have: 1 to 65,541
abbrev pub IsShort : List ℕ → Type 0
IsShort octets = (1 ≤ length octets) × (length octets ≤ longest_incomplete)

-- A listed packet has 1 to 65,541 octets so far.
abbrev pub IncompleteIsShort : Type 0
IncompleteIsShort = (channel : List TmView) → AllByRecursion IsShort (incomplete_of channel)

-- The octets in the list are as many as the incomplete packet has so far.
abbrev pub IncompleteIsCounted : Type 0
IncompleteIsCounted =
    (channel : List TmView) (octets : List ℕ) → IsIncomplete channel octets
    → length (concat (incomplete_of channel)) ≡ length octets

-- Where the list has octets, there is an incomplete packet.
abbrev pub WhatIsCountedIsIncomplete : Type 0
WhatIsCountedIsIncomplete =
    (channel : List TmView) → 0 < length (concat (incomplete_of channel))
    → (octets : List ℕ) × IsIncomplete channel octets
