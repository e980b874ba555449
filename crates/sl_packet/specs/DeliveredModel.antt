-- A `Delivered` stands for its lists, the count of refused packets, and the number of lists that it
-- has memory for. The lists beyond the last one that is kept are empty.
use Rattle.std.specs.Prelude.{ℕ, ◌≤◌, List, length}
use Rattle.std.specs.List.{AllByRecursion}
use Rattle.std.specs.Vec.{vec_capacity}
use Rattle.sl_packet.specs.Delivered.{PacketLists, channel_count, IsDeliverable}
use Rattle.sl_packet.specs.KeptLists.{lists_in, with_empty_lists}
use Rattle.sl_packet.specs.declared.delivered.Delivered.TheInside.{Inside}

-- the lists that a store keeps, from channel 0 on
abbrev pub kept_lists : Inside → List (List (List ℕ))
kept_lists d = lists_in d.lists

-- what a store stands for
abbrev pub packet_lists_of : Inside → PacketLists
packet_lists_of d =
    record { lists = with_empty_lists (kept_lists d); failures = d.failures; capacity = vec_capacity d.lists }

-- what holds of each store, its invariant: no list is beyond channel 4095, and each packet may be
-- delivered
pub record IsDelivered (d : Inside) : Type 0 where
  pub fit : length (kept_lists d) ≤ channel_count
  pub deliverable : AllByRecursion (AllByRecursion IsDeliverable) (kept_lists d)
