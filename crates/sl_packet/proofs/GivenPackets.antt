-- Packets that are given one after another.
use Rattle.std.proofs.Common.{◌≡◌, ℕ, List, length, drop, Some, None, sym, refl}
use denote.Ref.{Bor}
use Rattle.sl_packet.specs.Front.{first_packet_of}
use Rattle.sl_packet.specs.Packets.{GivesPacket}
use Rattle.sl_packet.proofs.HandOver.{is_first, none_first, rest_first}

pub gives_packet : (octets : List ℕ) (packet : Bor (List ℕ)) → first_packet_of octets ≡ Some packet.now
    → GivesPacket octets (Some packet) (drop (length packet.now) octets)
gives_packet octets packet h =
    let first = is_first octets packet.now h in
    record {
      packets = first.packets;
      first = sym h;
      taken = first.split;
      unchanged = tt;
      same_rest = sym first.rest;
      all_given = tt;
    }

pub gives_none : (octets : List ℕ) → first_packet_of octets ≡ None → GivesPacket octets None octets
gives_none octets h = record {
  packets = (none_first octets h, none_first octets h);
  first = sym h;
  taken = tt;
  unchanged = refl;
  same_rest = refl;
  all_given = sym (rest_first octets h);
}
