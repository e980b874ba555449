-- The listings of packets channel by channel: each has the packets that the recording delivers there.
use Rattle.std.specs.Prelude.{◌≡◌, ◌==◌, ℕ, List, [], map}
use Rattle.std.specs.List.{concat, filter, slice_index_or}
use Rattle.sl_engine.specs.Link.Managed.{Parameters}
use Rattle.sl_engine.specs.Kind.Tc.{tc_packets}
use Rattle.sl_engine.specs.Kind.Tm.{tm_packets}
use Rattle.sl_engine.specs.Verbs.Packets.Line.{packet_line}
use Rattle.sl_engine.specs.Verbs.Packets.Tc.{packets_tc_text, tc_channel_name}
use Rattle.sl_engine.specs.Verbs.Packets.Tm.{packets_tm_text, tm_channel_name}

-- a packet that a listing has a line for, and the number of its channel
pub record ListedPacket : Type 0 where
  pub channel : ℕ
  pub packet : List ℕ

-- its line, where `name` names a channel by its number
abbrev pub line_of : (ℕ → List ℕ) → ListedPacket → List ℕ
line_of name l = packet_line (name l.channel) l.packet

-- the packets of a channel, in the order of the listing
abbrev pub packets_listed_on : List ListedPacket → ℕ → List (List ℕ)
packets_listed_on listed channel = map (λ l. l.packet) (filter (λ l. l.channel == channel) listed)

-- These octets are a line for each of some packets, one after another, with the name of the packet's channel. The
-- packets on each channel are those of the list at the channel's number, in its order; on a channel past the last list
-- there are none.
pub record ListsPackets (name : ℕ → List ℕ) (lists : List (List (List ℕ))) (listing : List ℕ) : Type 0 where
  pub listed : List ListedPacket
  pub lines : listing ≡ concat (map (line_of name) listed)
  pub each : (channel : ℕ) → packets_listed_on listed channel ≡ slice_index_or lists channel []

-- ---- laws

-- The packet listing of a TM recording is a line for each of some packets. On each virtual channel these are exactly
-- the packets that the recording delivers there, in their order, idle ones left out.
abbrev pub TmPacketsAreListed : Type 0
TmPacketsAreListed = (p : Parameters) (recording : List ℕ)
    → ListsPackets tm_channel_name (tm_packets p recording) (packets_tm_text p recording)

-- The same of a TC recording, on each virtual channel and MAP, whose channel has one number.
abbrev pub TcPacketsAreListed : Type 0
TcPacketsAreListed = (p : Parameters) (recording : List ℕ)
    → ListsPackets tc_channel_name (tc_packets p recording) (packets_tc_text p recording)
