-- The lines of the packets of a kind of frames, and how these name their channels.
use Rattle.std.specs.Prelude.{ℕ, List, ◌≡◌, map}
use Rattle.std.specs.List.{concat}
use Rattle.sl_packet.specs.Packets.{without_idle}
use Rattle.sl_engine.specs.declared.verbs.packets.printer.ChannelName.{ChannelName}
use Rattle.sl_engine.specs.declared.verbs.packets.printer.ChannelName.TheVariants.{VirtualChannel, Map}
use Rattle.sl_engine.specs.Verbs.Packets.Tm.{tm_channel_name}
use Rattle.sl_engine.specs.Verbs.Packets.Tc.{tc_channel_name}
use Rattle.sl_engine.specs.Kind.Delivery.{Kind}
use Rattle.sl_engine.specs.Verbs.Packets.Line.{packet_line}

-- a channel by its number: a virtual channel, or virtual channel v and MAP m, whose number is 64 v + m
abbrev pub channel_name : ChannelName → ℕ → List ℕ
channel_name VirtualChannel = tm_channel_name
channel_name Map = tc_channel_name

-- the lines of packets on a channel
abbrev pub lines_on : ChannelName → ℕ → List (List ℕ) → List ℕ
lines_on names channel packets = concat (map (packet_line (channel_name names channel)) packets)

-- these are the lines of the packets that end in a frame of kind `k` that comes after others, idle ones left out;
-- `names` says how a line names its channel
abbrev pub ArePrinted : Kind → ChannelName → (List (List ℕ) → List ℕ → List ℕ) → Type 0
ArePrinted k names lines = (before : List (List ℕ)) (frame : List ℕ)
    → lines before frame ≡ lines_on names (k.channel frame) (without_idle (k.packets_ended_by before frame))
