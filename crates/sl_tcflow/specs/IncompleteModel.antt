-- An `Incomplete` stands for the octets so far of a series, if one is incomplete.
use Rattle.std.specs.Prelude.{◌≡◌, ℕ, ◌≤◌, false, if◌then◌else◌, List, [], length, Option, None, Some}
use Rattle.std.specs.Vec.{vec_capacity}
use Rattle.sl_packet.specs.Packet.{longest_packet}
use Rattle.sl_tcflow.specs.declared.incomplete.Incomplete.TheInside.{Inside}

-- what an `Incomplete` stands for
abbrev pub octets_so_far : Inside → Option (List ℕ)
octets_so_far s = if s.is_begun then Some s.octets.items else None

-- The invariant of an `Incomplete`: it has at most 65,542 octets. Where no series is incomplete, it
-- has no octets, and keeps memory for at most 4096 (`MOST_KEPT` of the code).
pub record IsKept (s : Inside) : Type 0 where
  pub fits : length s.octets.items ≤ longest_packet
  pub none : s.is_begun ≡ false → s.octets.items ≡ []
  pub memory : s.is_begun ≡ false → vec_capacity s.octets ≤ 4096
