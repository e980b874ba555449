-- Delivered packets: a list for each channel, the count of refused packets, and the number of lists
-- that there is memory for.
use Rattle.std.specs.Prelude.{◌≡◌, ◌≢◌, ℕ, ◌<◌, ◌≤◌, List, [], ◌∷◌, ◌++◌, replicate, false}
use Rattle.std.specs.List.{slice_index_or, slice_set}
use Rattle.sl_packet.specs.Packet.{IsPacket, is_idle_packet}

-- the channels, 0 to 4095
abbrev pub channel_count : ℕ
channel_count = 4096

-- what a store of delivered packets stands for
pub record PacketLists : Type 0 where
  -- a list of packets for each channel
  pub lists : List (List (List ℕ))
  -- the count of refused packets
  pub failures : ℕ
  -- for how many lists there is memory; only the clause of a new store speaks of it
  pub capacity : ℕ

-- the packets of a channel
abbrev pub list_at : PacketLists → ℕ → List (List ℕ)
list_at d channel = slice_index_or d.lists channel []

-- the lists, with a packet added to the end of one channel's list
abbrev pub with_packet : List (List (List ℕ)) → ℕ → List ℕ → List (List (List ℕ))
with_packet lists channel packet = slice_set lists channel (slice_index_or lists channel [] ++ packet ∷ [])

-- the packet was added to the end of its channel's list, and the other lists stay
abbrev pub AddsPacket : PacketLists → ℕ → List ℕ → PacketLists → Type 0
AddsPacket old channel packet new = new.lists ≡ with_packet old.lists channel packet

-- the lists of a store without packets: an empty list for each channel
unfoldable pub empty_lists : List (List (List ℕ))
empty_lists = replicate channel_count []

-- octets that may be delivered: a packet that isn't idle
abbrev pub IsDeliverable : List ℕ → Type 0
IsDeliverable packet = IsPacket packet × (is_idle_packet packet ≡ false)

-- no channel has packets, of those at or above `from` and below `to`
abbrev pub HasNone : PacketLists → ℕ → ℕ → Type 0
HasNone d from to = (channel : ℕ) → from ≤ channel → channel < to → list_at d channel ≡ []

-- `channel` is the least channel with packets, of those at or above `from`
pub record IsLeast (d : PacketLists) (from channel : ℕ) : Type 0 where
  pub after : from ≤ channel
  pub inside : channel < channel_count
  pub some : list_at d channel ≢ []
  pub least : HasNone d from channel

-- only the virtual channels of TM frames, 0 to 7, have packets
abbrev pub FitsTm : PacketLists → Type 0
FitsTm d = HasNone d 8 channel_count
