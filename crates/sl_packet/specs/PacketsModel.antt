-- A `Packets` stands for the octets that are left.
use Rattle.std.specs.Prelude.{ℕ, List}
use Rattle.sl_packet.specs.declared.packets.Packets.TheInside.{Inside}

abbrev pub octets_left : Inside → List ℕ
octets_left p = p.rest.now
