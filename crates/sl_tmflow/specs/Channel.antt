-- The state that an extractor or a counter keeps of a virtual channel of CCSDS 132.0-B, and the state after the
-- next frame. The steps from one state to the next are the code's, not the standard's, and only
-- contracts of private functions cite them.
use Rattle.std.specs.Prelude.{ℕ, Bool, false, List, [], ◌∷◌, ◌++◌, drop, Option, None, Some}
use Rattle.sl_packet.specs.Front.{Front, OtherVersion, Incomplete, WholePacket, front_of, is_foreign}
use Rattle.sl_packet.specs.Packets.{rest_of}
use Rattle.sl_tmframe.specs.TmFrame.{TmView, DataField, Packets, Idle, Opaque}
use Rattle.sl_tmflow.specs.VirtualChannel.{follows, packet_data}
use Rattle.sl_tmflow.specs.Delivery.{Continuation, Ends, Continues, Breaks, ended, continuation_after}
use Rattle.sl_tmflow.specs.PacketStart.{whole_packets}

-- the virtual channel frame count of the channel's last frame, and the octets so far of the packet
-- that is incomplete after it, if one is
pub record ChannelState : Type 0 where
  pub count : Option ℕ
  pub held : List ℕ

-- the state before the first frame
abbrev pub no_frame : ChannelState
no_frame = record { count = None; held = [] }

-- a state, and the number of octets that there is memory for
pub record ChannelWithMemory : Type 0 where
  pub state : ChannelState
  pub capacity : ℕ

-- a virtual channel before its first frame, without memory
abbrev pub new_channel : ChannelWithMemory
new_channel = record { state = no_frame; capacity = 0 }

-- what the next frame does to the packet whose octets are held, after a frame with this count;
-- `Breaks` where no octets are held
abbrev pub held_continuation : Option ℕ → List ℕ → TmView → Continuation
held_continuation None held next = Breaks
held_continuation (Some count) [] next = Breaks
held_continuation (Some count) (octet ∷ octets) next = continuation_after count (octet ∷ octets) next

-- what the next frame does to the packet whose octets are held, in this state
abbrev pub continuation_in : ChannelState → TmView → Continuation
continuation_in state next = held_continuation state.count state.held next

-- whether a virtual channel frame count follows the last one
abbrev pub is_after : Option ℕ → ℕ → Bool
is_after None count = false
is_after (Some last) count = follows last count

-- the octets that are held after a continuation, where `octets` are all octets of the packet so
-- far, those of the frame included
abbrev pub octets_held : Continuation → List ℕ → List ℕ
octets_held (Ends packet) octets = []
octets_held Continues octets = octets
octets_held Breaks octets = []

-- the octets that are held after the next frame, apart from the packets that start in the frame
abbrev pub held_before_starts : Continuation → List ℕ → TmView → List ℕ
held_before_starts continuation held next = octets_held continuation (held ++ packet_data next)

-- the octets so far of the packet that is broken off, and none where none is
abbrev pub octets_dropped : Continuation → List ℕ → List ℕ
octets_dropped (Ends packet) octets = []
octets_dropped Continues octets = []
octets_dropped Breaks octets = octets

-- the held octets that the next frame breaks off; of frames, `broken_off` of Anomaly.antt says which
-- these are
abbrev pub broken_in : ChannelState → TmView → List ℕ
broken_in state next = octets_dropped (continuation_in state next) state.held

-- the octets, where their front is incomplete, and no octets otherwise
abbrev pub incomplete_in : Front → List ℕ → List ℕ
incomplete_in OtherVersion octets = []
incomplete_in Incomplete octets = octets
incomplete_in (WholePacket len) octets = []

-- the octets that are held at the end of a data field: those of the packet that is incomplete
-- there, or `held` where no packet starts in the field
abbrev pub held_at_field_end : DataField → List ℕ → List ℕ
held_at_field_end (Packets None octets) held = held
held_at_field_end (Packets (Some pointer) octets) held =
    incomplete_in (front_of (rest_of (drop pointer octets))) (rest_of (drop pointer octets))
held_at_field_end Idle held = held
held_at_field_end Opaque held = held

-- whether the octets after the packets that lie whole in a data field begin with another packet
-- version than 0; `foreign_of` of Anomaly.antt says so of all its packet starts
abbrev pub foreign_in : DataField → Bool
foreign_in (Packets None octets) = false
foreign_in (Packets (Some pointer) octets) = is_foreign (rest_of (drop pointer octets))
foreign_in Idle = false
foreign_in Opaque = false

-- the state after the next frame
abbrev pub channel_after : ChannelState → TmView → ChannelState
channel_after state next =
    record {
      count = Some next.vc_count;
      held = held_at_field_end next.field (held_before_starts (continuation_in state next) state.held next);
    }

-- the packets that end in the next frame; of frames, `ended_by` of Extractor.antt says which these
-- are
abbrev pub packets_ended : ChannelState → TmView → List (List ℕ)
packets_ended state next = ended (continuation_in state next) ++ whole_packets next.field
