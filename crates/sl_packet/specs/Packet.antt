-- The space packet, CCSDS 133.0-B: what a packet is, and whether it is idle.
use Rattle.std.specs.Prelude.{◌≡◌, ℕ, ◌+◌, ◌≤◌, ◌==◌, ◌&&◌, nat_lt, Bool, List, [], ◌++◌, length, take}
use Rattle.sl_fields.specs.Field.{IsOctets, field}
use Rattle.sl_fields.specs.PacketHeader.{packet_header}

-- The packet version number: the first three bits. `field 1 0 3` is the field of a header of one
-- octet that begins at bit 0 and has three bits.
abbrev pub version_of : List ℕ → ℕ
version_of octets = field 1 0 3 (take 1 octets)

-- the application process identifier: the last eleven of the first sixteen bits
abbrev pub apid_of : List ℕ → ℕ
apid_of octets = field 2 5 11 (take 2 octets)

-- The length of a packet with this header: six octets of the header, and one more than the packet
-- data length. Fewer than six octets have no header: the stated length then means nothing, but it
-- is 7 or more, and so greater than the number of octets.
abbrev pub stated_packet_len : List ℕ → ℕ
stated_packet_len octets = 7 + (packet_header (take 6 octets)).length

-- the octets of the longest packet: the six of its header, and the 65,536 that its length can state
abbrev pub longest_packet : ℕ
longest_packet = 65542

-- A space packet has version 0 and as many octets as its header states.
pub record IsPacket (packet : List ℕ) : Type 0 where
  pub version : version_of packet ≡ 0
  pub len : length packet ≡ stated_packet_len packet

-- Whether octets begin like an idle packet: there are two or more, and their APID is 2047. No other
-- field decides this.
abbrev pub is_idle_packet : List ℕ → Bool
is_idle_packet octets = nat_lt 1 (length octets) && (apid_of octets == 2047)

-- ---- laws

-- No packet is a proper prefix of another packet.
abbrev pub PacketsArePrefixFree : Type 0
PacketsArePrefixFree = (packet more : List ℕ) → IsPacket packet → IsPacket (packet ++ more) → more ≡ []

-- At most one packet is a prefix of given octets.
abbrev pub OnePacketIsPrefix : Type 0
OnePacketIsPrefix =
    (p q p' q' : List ℕ) → IsPacket p → IsPacket q → p ++ p' ≡ q ++ q' → p ≡ q

-- Where there are six octets or more, `version_of` and `apid_of` are the version and the APID of
-- the primary header.
abbrev pub HeaderFieldsStandFirst : Type 0
HeaderFieldsStandFirst =
    (octets : List ℕ) → IsOctets octets → 6 ≤ length octets
    → (version_of octets ≡ (packet_header (take 6 octets)).version)
    × (apid_of octets ≡ (packet_header (take 6 octets)).apid)
