-- Packets of known octets, computed from the definitions.
use Rattle.std.proofs.Common.{◌≡◌, true, false, [], ◌∷◌, ◌++◌, List, ℕ, refl}
use Rattle.sl_packet.specs.Front.{front_of, OtherVersion, Incomplete, WholePacket}
use Rattle.sl_packet.specs.IdlePacket.{idle_packet}
use Rattle.sl_packet.specs.Packet.{is_idle_packet}
use Rattle.sl_packet.specs.Packets.{packets_of, rest_of}

-- a telemetry packet of APID 1 with four octets of data
abbrev packet : List ℕ
packet = 0x00 ∷ 0x01 ∷ 0xC0 ∷ 0x00 ∷ 0x00 ∷ 0x03 ∷ 0xAA ∷ 0xBB ∷ 0xCC ∷ 0xDD ∷ []

-- an idle packet with ten octets of data
abbrev idle : List ℕ
idle = 0x07 ∷ 0xFF ∷ 0xC0 ∷ 0x00 ∷ 0x00 ∷ 0x09 ∷ 0 ∷ 0 ∷ 0 ∷ 0 ∷ 0 ∷ 0 ∷ 0 ∷ 0 ∷ 0 ∷ 0 ∷ []

pub record AreFronts : Type 0 where
  pub nothing : front_of [] ≡ Incomplete
  pub no_length : front_of (0x00 ∷ 0x03 ∷ 0xC0 ∷ []) ≡ Incomplete
  pub version_one : front_of (0x20 ∷ []) ≡ OtherVersion
  pub whole : front_of packet ≡ WholePacket 10
  pub one_octet_of_data : front_of (0x00 ∷ 0x01 ∷ 0xC0 ∷ 0x00 ∷ 0x00 ∷ 0x03 ∷ 0xAA ∷ []) ≡ Incomplete
  pub end_to_end : packets_of (packet ++ idle) ≡ packet ∷ idle ∷ []
  pub nothing_left : rest_of (packet ++ idle) ≡ []

pub fronts : AreFronts
fronts = record {
  nothing = refl;
  no_length = refl;
  version_one = refl;
  whole = refl;
  one_octet_of_data = refl;
  end_to_end = refl;
  nothing_left = refl;
}

pub record AreIdle : Type 0 where
  pub least : idle_packet 7 ≡ 0x07 ∷ 0xFF ∷ 0xC0 ∷ 0x00 ∷ 0x00 ∷ 0x00 ∷ 0x00 ∷ []
  pub two_octets : is_idle_packet (0x07 ∷ 0xFF ∷ []) ≡ true
  pub one_octet : is_idle_packet (0x07 ∷ []) ≡ false
  -- the sequence flags, the packet type and the version don't matter
  pub segmented : is_idle_packet (0x07 ∷ 0xFF ∷ 0x00 ∷ 0x07 ∷ 0x00 ∷ 0x00 ∷ 0x01 ∷ []) ≡ true
  pub version_one : is_idle_packet (0x2F ∷ 0xFF ∷ []) ≡ true
  pub other_apid : is_idle_packet (0x07 ∷ 0xFE ∷ 0xC0 ∷ 0x00 ∷ []) ≡ false

pub idle_ones : AreIdle
unfolding idle_packet
idle_ones = record {
  least = refl;
  two_octets = refl;
  one_octet = refl;
  segmented = refl;
  version_one = refl;
  other_apid = refl;
}
