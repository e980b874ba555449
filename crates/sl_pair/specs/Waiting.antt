-- The copies of one packet that have no counterpart yet.
use Rattle.std.specs.Prelude.{ℕ, Bool, List, drop, bytes_eq}
use Rattle.std.specs.List.{filter}
use Rattle.sl_pair.specs.OnlyIn.{Packets, copies}
use Rattle.sl_pair.specs.Placed.{Placed, placed}

-- whether a packet of a recording is this one
abbrev pub same_packet : List ℕ → Placed → Bool
same_packet packet one = bytes_eq packet one.packet

-- The copies of a packet that have no counterpart among the others: all but as many as the others have of it.
abbrev pub waiting : List ℕ → Packets → Packets → List Placed
waiting packet own others = drop (copies packet others) (filter (same_packet packet) (placed own))
