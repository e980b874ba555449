-- The idle packet that is written as fill. Its version, its APID and its length are those of an
-- idle packet, CCSDS 133.0-B. Its packet type, sequence flags, sequence count and data are this
-- project's choice.
use Rattle.std.specs.Prelude.{◌≡◌, ℕ, ◌-◌, ◌≤◌, true, List, [], ◌∷◌, ◌++◌, length, replicate}
use Rattle.sl_fields.specs.Field.{octets_of}
use Rattle.sl_packet.specs.Packet.{IsPacket, is_idle_packet, longest_packet}

-- The fields of the idle packet's header, with their widths: version 0, telemetry, no secondary
-- header, the APID of idle packets, unsegmented, sequence count 0, and the length of a packet of
-- `len` octets.
abbrev pub idle_fields : ℕ → List (ℕ × ℕ)
idle_fields len = (3, 0) ∷ (1, 0) ∷ (1, 0) ∷ (11, 2047) ∷ (2, 3) ∷ (14, 0) ∷ (16, len - 7) ∷ []

-- the idle packet of `len` octets: its header, and zeros as its data
unfoldable pub idle_packet : ℕ → List ℕ
idle_packet len = octets_of 6 (idle_fields len) ++ replicate (len - 6) 0

-- ---- laws

-- `packet` is a space packet, is idle, and has `len` octets.
pub record IsIdlePacketOf (len : ℕ) (packet : List ℕ) : Type 0 where
  pub is_packet : IsPacket packet
  pub is_idle : is_idle_packet packet ≡ true
  pub has_len : length packet ≡ len

-- For each length from 7 to 65,542, `idle_packet` is an idle packet of this length.
abbrev pub IdlePacketsAreIdle : Type 0
IdlePacketsAreIdle = (len : ℕ) → 7 ≤ len → len ≤ longest_packet → IsIdlePacketOf len (idle_packet len)
