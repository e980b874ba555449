-- The packets that a virtual channel of CCSDS 132.0-B delivers. A packet is found by its start in a
-- frame and by the run of later frames up to the one in which it ends. The first header pointers of
-- the run have to agree with the packet (`agreeing_pointer`): this project's choice.
use Rattle.std.specs.Prelude.{◌≡◌, ◌≢◌, ⊤, ◌⊎◌, ℕ, ◌+◌, ◌-◌, ◌<◌, ◌≤◌, ◌==◌, nat_eq, nat_lt, if◌then◌else◌, List, [], ◌∷◌, ◌++◌, length, take, drop, map, Option, None, Some, is_some}
use Rattle.std.specs.List.{AllByRecursion, filter, flat_map}
use Rattle.std.specs.Option.{option_eq}
use mathlib.Core.List.{IsPrefix}
use Rattle.sl_packet.specs.Packet.{IsPacket}
use Rattle.sl_packet.specs.Front.{Front, OtherVersion, Incomplete, WholePacket, front_of}
use Rattle.sl_tmflow.specs.Among.{IsAmong}
use Rattle.sl_tmframe.specs.TmFrame.{TmView, DataField, Packets, Idle, Opaque}
use Rattle.sl_tmflow.specs.VirtualChannel.{follows, AreConsecutive, packet_data, reassembly}
use Rattle.sl_tmflow.specs.PacketStart.{IsStart, starts_of}

-- ---- the relation

-- The first header pointer that agrees with a packet of `len` octets, where `before` of them came
-- before the frame: none (no packet starts in the frame) where the packet covers the data field to
-- its end, and otherwise the offset at which the packet ends. This project's choice.
abbrev pub agreeing_pointer : ℕ → ℕ → List ℕ → Option ℕ
agreeing_pointer len before field = if nat_lt len (before + length field) then Some (len - before) else None

-- A packet that starts in the frame `view` is delivered at the end of a run of later frames.
-- `octets` are those of the frame from the packet's start on. A packet that lies whole in the frame
-- has an empty run.
pub record IsDeliveredBy (view : TmView) (octets : List ℕ) (run : List TmView) (packet : List ℕ) : Type 0 where
  pub is_packet : IsPacket packet
  -- the packet ends in the last frame of the run, and not earlier
  pub ends : IsPrefix packet (reassembly octets run)
  pub not_earlier :
      (earlier : List TmView) (last : TmView) → run ≡ earlier ++ last ∷ []
      → IsPrefix packet (reassembly octets earlier) → ⊥
  -- the virtual channel frame counts are consecutive
  pub consecutive : AreConsecutive view run
  -- no frame of the run is opaque
  pub none_opaque : AllByRecursion (λ next. next.field ≢ Opaque) run
  -- the pointer of each frame of packets agrees with the packet: this project's choice
  pub agreed :
      (earlier : List TmView) (next : TmView) (later : List TmView) (first : Option ℕ) (field : List ℕ)
      → run ≡ earlier ++ next ∷ later → next.field ≡ Packets first field
      → first ≡ agreeing_pointer (length packet) (length (reassembly octets earlier)) field

-- a packet that a channel delivers, the offset at which it starts in its frame's data field, and
-- the numbers of the frames in which it starts and ends, counted from 0 in the channel
pub record Delivery : Type 0 where
  pub frame : ℕ
  pub start : ℕ
  pub ending : ℕ
  pub packet : List ℕ

-- This is a delivery of the channel. Its packet starts in the frame with the number `frame` at the
-- packet start `start`, and is delivered at the end of the run of later frames up to the one with
-- the number `ending`.
pub record IsDelivery (channel : List TmView) (d : Delivery) : Type 0 where
  pub before : List TmView
  pub view : TmView
  pub run : List TmView
  pub after : List TmView
  pub in_order : channel ≡ before ++ view ∷ run ++ after
  pub frame : d.frame ≡ length before
  pub ending : d.ending ≡ d.frame + length run
  pub first : Option ℕ
  pub octets : List ℕ
  pub field : view.field ≡ Packets first octets
  pub start : IsStart octets first d.start
  pub delivered : IsDeliveredBy view (drop d.start octets) run d.packet

-- ---- the outcome of a packet start

-- what becomes of the packet that may begin at a packet start
pub data Outcome : Type 0 where
  -- the packet is delivered, this many frames later
  Completes : (packet : List ℕ) (passed : ℕ) → Outcome
  -- the packet is still incomplete after the last frame
  StillIncomplete : (octets : List ℕ) → Outcome
  -- the packet is never delivered: it has another version than 0, or is broken off
  Undelivered : Outcome

-- what the next frame does to an incomplete packet
pub data Continuation : Type 0 where
  -- this packet ends in the frame
  Ends : (packet : List ℕ) → Continuation
  -- the packet is still incomplete after the frame
  Continues : Continuation
  -- the frame breaks the packet off
  Breaks : Continuation

-- the packet that ends in the next frame, if one does
abbrev pub ended : Continuation → List (List ℕ)
ended (Ends packet) = packet ∷ []
ended Continues = []
ended Breaks = []

-- What the next frame of packets does to an incomplete packet, by the front of `all`, which are all
-- octets of the packet so far: `before` octets, and then those of the data field. A packet that is
-- whole now ends if the pointer agrees with the packet. A packet that is still incomplete goes on
-- only where no packet starts in the frame.
abbrev pub front_continuation : Option ℕ → ℕ → List ℕ → List ℕ → Front → Continuation
front_continuation first before field all OtherVersion = Breaks
front_continuation first before field all Incomplete = if is_some first then Breaks else Continues
front_continuation first before field all (WholePacket len) =
    if option_eq nat_eq first (agreeing_pointer len before field) then Ends (take len all) else Breaks

-- what the data field of the next frame does to an incomplete packet with these octets so far
abbrev pub field_continuation : List ℕ → DataField → Continuation
field_continuation octets (Packets first field) =
    front_continuation first (length octets) field (octets ++ field) (front_of (octets ++ field))
field_continuation octets Idle = Continues
field_continuation octets Opaque = Breaks

-- what the next frame does to an incomplete packet, after a frame with this virtual channel frame
-- count
abbrev pub continuation_after : ℕ → List ℕ → TmView → Continuation
continuation_after count octets next =
    if follows count next.vc_count then field_continuation octets next.field else Breaks

-- what the next frame does to an incomplete packet, after this frame
abbrev pub continuation_of : TmView → List ℕ → TmView → Continuation
continuation_of view octets next = continuation_after view.vc_count octets next

-- the outcome after what a frame did, where `later` is the outcome if the packet goes on
abbrev pub outcome_of_continuation : Continuation → ℕ → Outcome → Outcome
outcome_of_continuation (Ends packet) passed later = Completes packet passed
outcome_of_continuation Continues passed later = later
outcome_of_continuation Breaks passed later = Undelivered

-- the outcome of an incomplete packet with these octets so far, up to the frame `view`, which comes
-- `passed` frames after the one in which the packet starts
abbrev pub outcome_after : ℕ → TmView → List ℕ → List TmView → Outcome
outcome_after passed view octets [] = StillIncomplete octets
outcome_after passed view octets (next ∷ later) =
    outcome_of_continuation (continuation_of view octets next) (passed + 1)
    (outcome_after (passed + 1) next (octets ++ packet_data next) later)

-- the outcome of a packet start with these octets and these later frames, by the front of the
-- octets
abbrev pub outcome_of_front : Front → TmView → List ℕ → List TmView → Outcome
outcome_of_front OtherVersion view octets later = Undelivered
outcome_of_front Incomplete view octets later = outcome_after 0 view octets later
outcome_of_front (WholePacket len) view octets later = Completes (take len octets) 0

-- the outcome of a packet start in the frame `view`, where `octets` are those of the frame from the
-- packet start on, and `later` are the later frames
abbrev pub outcome_of : TmView → List ℕ → List TmView → Outcome
outcome_of view octets later = outcome_of_front (front_of octets) view octets later

-- ---- the deliveries of a channel, in order of frame and packet start

-- the delivery of an outcome, if there is one
abbrev pub delivery_of : ℕ → ℕ → Outcome → List Delivery
delivery_of frame start (Completes packet passed) =
    record {
      frame = frame;
      start = start;
      ending = frame + passed;
      packet = packet;
    } ∷ []
delivery_of frame start (StillIncomplete octets) = []
delivery_of frame start Undelivered = []

-- the deliveries of the packet starts of a frame
abbrev pub frame_deliveries : ℕ → TmView → List TmView → List Delivery
frame_deliveries frame view later =
    flat_map (λ start. delivery_of frame start (outcome_of view (drop start (packet_data view)) later))
    (starts_of view.field)

-- the deliveries of a channel whose first frame has the number `frame`
abbrev pub deliveries_from : ℕ → List TmView → List Delivery
deliveries_from frame [] = []
deliveries_from frame (view ∷ later) = frame_deliveries frame view later ++ deliveries_from (frame + 1) later

-- the deliveries of a channel
abbrev pub deliveries_of : List TmView → List Delivery
deliveries_of channel = deliveries_from 0 channel

-- those of the deliveries that end in the frame with this number
abbrev pub ending_in : ℕ → List Delivery → List Delivery
ending_in number deliveries = filter (λ d. d.ending == number) deliveries

-- the packets of these deliveries, in the same order
abbrev pub packets_delivered : List Delivery → List (List ℕ)
packets_delivered deliveries = map (λ d. d.packet) deliveries

-- the packets that end in the next frame of a channel, in order of the frame and the offset at
-- which they start
abbrev pub packets_ending : List TmView → TmView → List (List ℕ)
packets_ending channel next = packets_delivered (ending_in (length channel) (deliveries_of (channel ++ next ∷ [])))

-- ---- laws on the list of deliveries

-- Each listed delivery is a delivery.
abbrev pub EachIsDelivery : Type 0
EachIsDelivery = (channel : List TmView) → AllByRecursion (IsDelivery channel) (deliveries_of channel)

-- Each delivery is listed.
abbrev pub EachIsListed : Type 0
EachIsListed = (channel : List TmView) (d : Delivery) → IsDelivery channel d → IsAmong d (deliveries_of channel)

-- the first delivery's packet starts before that of the second one: in an earlier frame, or earlier
-- in the same frame
abbrev pub StartsBefore : Delivery → Delivery → Type 0
StartsBefore d e = (d.frame < e.frame) ⊎ ((d.frame ≡ e.frame) × (d.start < e.start))

-- each delivery starts before all later ones
abbrev pub AreInOrder : List Delivery → Type 0
AreInOrder [] = ⊤
AreInOrder (d ∷ deliveries) = AllByRecursion (StartsBefore d) deliveries × AreInOrder deliveries

-- The deliveries are listed in order of frame and packet start.
abbrev pub DeliveriesAreInOrder : Type 0
DeliveriesAreInOrder = (channel : List TmView) → AreInOrder (deliveries_of channel)

-- ---- laws on where packets end

-- The packets of a channel with one frame more are those of the channel without this frame, and
-- then those that end in this frame.
abbrev pub PacketsEndOnce : Type 0
PacketsEndOnce =
    (channel : List TmView) (next : TmView)
    → packets_delivered (deliveries_of (channel ++ next ∷ []))
    ≡ packets_delivered (deliveries_of channel) ++ packets_ending channel next

-- Packets in the order of their starts are in the order of their ends.
abbrev pub EndsAreInOrder : Type 0
EndsAreInOrder =
    (channel : List TmView) (d e : Delivery) → IsDelivery channel d → IsDelivery channel e → StartsBefore d e
    → d.ending ≤ e.ending

-- A packet has ended by the frame in which the next one starts.
abbrev pub EachEndsByTheNextStart : Type 0
EachEndsByTheNextStart =
    (channel : List TmView) (d e : Delivery) → IsDelivery channel d → IsDelivery channel e → StartsBefore d e
    → d.ending ≤ e.frame

-- the offset at which a delivery's packet starts, in the octets of packets of all the channel's
-- frames, end to end
abbrev pub start_offset : List TmView → Delivery → ℕ
start_offset channel d = length (reassembly [] (take d.frame channel)) + d.start

-- A packet ends before the start of the next one, or at it: no two packets share an octet.
abbrev pub NoneOverlap : Type 0
NoneOverlap =
    (channel : List TmView) (d e : Delivery) → IsDelivery channel d → IsDelivery channel e → StartsBefore d e
    → start_offset channel d + length d.packet ≤ start_offset channel e
