-- The state of a counter of packets after frames of the virtual channels of CCSDS 132.0-B were given
-- to it.
use Rattle.std.specs.Prelude.{◌≡◌, ℕ, ◌<◌, List}
use Rattle.std.specs.List.{concat, slice_index_or}
use Rattle.sl_packet.specs.Outline.{HasOutline}
use Rattle.sl_tmframe.specs.TmFrame.{TmView}
use Rattle.sl_tmflow.specs.VirtualChannel.{views_on, last_count}
use Rattle.sl_tmflow.specs.Channel.{ChannelState}
use Rattle.sl_tmflow.specs.Incomplete.{incomplete_of}
use Rattle.sl_tmflow.specs.declared.channel_outline.ChannelOutline.{ChannelOutline}
use Rattle.sl_tmflow.specs.declared.counter.PacketCounter.{PacketCounter}

-- the outline of a virtual channel in this state; only contracts of private functions cite this
pub record Outlines (outline : ChannelOutline) (state : ChannelState) : Type 0 where
  pub count : outline.count ≡ state.count
  pub held : HasOutline state.held outline.held

-- This is the outline of a virtual channel after these frames of the channel: the count of the last
-- frame, and the outline of the octets so far of the incomplete packet, of no octets where none is.
pub record IsOutlineAfter (outline : ChannelOutline) (channel : List TmView) : Type 0 where
  pub count : outline.count ≡ last_count channel
  pub held : HasOutline (concat (incomplete_of channel)) outline.held

-- The counter is in the state after these frames. Other lists of frames may lead to the same state.
-- There are eight virtual channels, so it doesn't matter what `past` is.
pub record HasCounted (counter : PacketCounter) (views : List TmView) : Type 0 where
  pub each : (vc : ℕ) (past : ChannelOutline) → vc < 8 → IsOutlineAfter (slice_index_or counter.channels vc past) (views_on vc views)

-- the property holds for every list of frames that may have been counted up to this state
abbrev pub ForCounted : PacketCounter → (List TmView → Type 0) → Type 0
ForCounted counter holds = (views : List TmView) → HasCounted counter views → holds views
