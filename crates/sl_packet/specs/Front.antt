-- The front of octets, which is what they begin with: a space packet, CCSDS 133.0-B, or a part of
-- one, or something else.
use Rattle.std.specs.Prelude.{◌≡◌, ℕ, ◌≤◌, ◌==◌, ◌&&◌, nat_lt, Bool, not, if◌then◌else◌, List, ◌++◌, length, take, Option, None, Some}
use Rattle.sl_fields.specs.Field.{IsOctets}
use Rattle.sl_packet.specs.Packet.{version_of, stated_packet_len, IsPacket}

pub data Front : Type 0 where
  -- a foreign front: the first octet has another version than 0 (the name `Foreign` is that of a
  -- case of `Need`)
  OtherVersion : Front
  -- an incomplete front: no whole packet is here, but further octets can make one
  Incomplete : Front
  -- a whole front: a packet of this number of octets
  WholePacket : (len : ℕ) → Front

-- whether the front is foreign: there is a first octet, and it has another version than 0
abbrev pub is_foreign : List ℕ → Bool
is_foreign octets = nat_lt 0 (length octets) && not (version_of octets == 0)

-- The front of octets. Fewer than six octets have no header. For them `stated_packet_len` still is
-- 7 or more, which is more than there are, so they are never a whole packet.
abbrev pub front_of : List ℕ → Front
front_of octets =
    if is_foreign octets then OtherVersion
    else if nat_lt (length octets) (stated_packet_len octets) then Incomplete
    else WholePacket (stated_packet_len octets)

-- the packet that octets with this front begin with, if the front is whole
abbrev pub packet_at : Front → List ℕ → Option (List ℕ)
packet_at OtherVersion octets = None
packet_at Incomplete octets = None
packet_at (WholePacket len) octets = Some (take len octets)

-- the packet at the front of octets
abbrev pub first_packet_of : List ℕ → Option (List ℕ)
first_packet_of octets = packet_at (front_of octets) octets

-- ---- laws

-- Octets with a whole front begin with a packet.
abbrev pub WholeIsAPacket : Type 0
WholeIsAPacket =
    (octets : List ℕ) (len : ℕ) → front_of octets ≡ WholePacket len
    → IsPacket (take len octets) × (len ≤ length octets)

-- Octets that begin with a packet have a whole front.
abbrev pub APacketIsWhole : Type 0
APacketIsWhole = (packet more : List ℕ) → IsPacket packet → front_of (packet ++ more) ≡ WholePacket (length packet)

-- Octets with a foreign front begin with no packet, whatever follows.
abbrev pub ForeignIsNoPacket : Type 0
ForeignIsNoPacket =
    (octets more packet rest : List ℕ) → front_of octets ≡ OtherVersion → octets ++ more ≡ packet ++ rest
    → IsPacket packet → ⊥

-- Octets with an incomplete front become a packet with some further octets.
abbrev pub IncompleteMayBecomeWhole : Type 0
IncompleteMayBecomeWhole =
    (octets : List ℕ) → front_of octets ≡ Incomplete → (more : List ℕ) × IsOctets more × IsPacket (octets ++ more)
