-- The packet starts of a data field: the first header pointer of CCSDS 132.0-B, and each offset at
-- which a packet ends, one packet after another from the pointer on.
use Rattle.std.specs.Prelude.{◌≡◌, ℕ, ◌+◌, ◌<◌, List, [], ◌∷◌, ◌++◌, length, drop, Option, None, Some}
use Rattle.std.specs.List.{AllByRecursion, concat}
use Rattle.sl_packet.specs.Packet.{IsPacket}
use Rattle.sl_packet.specs.Packets.{packets_of, rest_of}
use Rattle.sl_tmflow.specs.Among.{IsAmong}
use Rattle.sl_tmframe.specs.TmFrame.{DataField, Packets, Idle, Opaque}

-- A packet start of a data field: an offset in the field up to which whole packets, perhaps none,
-- lie end to end from the first header pointer on. So the pointer itself is a packet start. What
-- begins at a packet start may be a packet or something else.
pub record IsStart (field : List ℕ) (first : Option ℕ) (start : ℕ) : Type 0 where
  pub pointer : ℕ
  pub pointed : first ≡ Some pointer
  pub before : List (List ℕ)
  pub packets : AllByRecursion IsPacket before
  pub end_to_end : drop pointer field ≡ concat before ++ drop start field
  pub here : start ≡ pointer + length (concat before)
  pub inside : start < length field

-- the offsets at which these packets start, end to end from `offset` on, and the offset of the
-- octets after the packets, if there are any
abbrev pub packet_offsets : ℕ → List (List ℕ) → List ℕ → List ℕ
packet_offsets offset [] [] = []
packet_offsets offset [] (octet ∷ octets) = offset ∷ []
packet_offsets offset (packet ∷ packets) rest = offset ∷ packet_offsets (offset + length packet) packets rest

-- the packet starts of a data field with this first header pointer, in order
abbrev pub starts_from : Option ℕ → List ℕ → List ℕ
starts_from None field = []
starts_from (Some pointer) field =
    packet_offsets pointer (packets_of (drop pointer field)) (rest_of (drop pointer field))

-- the packet starts of a frame's data field
abbrev pub starts_of : DataField → List ℕ
starts_of (Packets first octets) = starts_from first octets
starts_of Idle = []
starts_of Opaque = []

-- the packets that lie whole in a data field, end to end from its first header pointer on
abbrev pub whole_from : Option ℕ → List ℕ → List (List ℕ)
whole_from None octets = []
whole_from (Some pointer) octets = packets_of (drop pointer octets)

-- the packets that lie whole in a frame's data field
abbrev pub whole_packets : DataField → List (List ℕ)
whole_packets (Packets first octets) = whole_from first octets
whole_packets Idle = []
whole_packets Opaque = []

-- ---- laws

-- Each listed offset is a packet start.
abbrev pub EachIsStart : Type 0
EachIsStart = (first : Option ℕ) (field : List ℕ) → AllByRecursion (IsStart field first) (starts_from first field)

-- Each packet start is listed.
abbrev pub EachStartIsListed : Type 0
EachStartIsListed =
    (field : List ℕ) (first : Option ℕ) (start : ℕ) → IsStart field first start
    → IsAmong start (starts_from first field)
