-- The greatest number of packets that octets can have.
use Rattle.std.proofs.Common.{◌≡◌, ℕ, suc, ◌+◌, ◌≤◌, Bool, true, false, not, List, [], ◌∷◌, length, refl, ap, arith, length-append, cond}
use Rattle.std.specs.List.{AllByRecursion, concat}
use Rattle.sl_packet.specs.Packet.{IsPacket, is_idle_packet}
use Rattle.sl_packet.specs.Packets.{packets_of, rest_of, without_idle, only_idle}
use Rattle.sl_packet.proofs.PacketLemmas.{packet_least}
use Rattle.sl_packet.proofs.PacketsLemmas.{each_has_packets}

count_one : (idle : Bool) (packet : List ℕ) (dues idles : List (List ℕ)) (n : ℕ) → length dues + length idles ≡ n
    → length (cond (not idle) (packet ∷ dues) dues) + length (cond idle (packet ∷ idles) idles) ≡ suc n
count_one true packet dues idles n e = omega arith
count_one false packet dues idles n e = omega arith

-- the packets that are idle and those that aren't are all packets
pub split_count : (packets : List (List ℕ)) → length (without_idle packets) + length (only_idle packets) ≡ length packets
split_count [] = refl
split_count (packet ∷ packets) = count_one (is_idle_packet packet) packet (without_idle packets) (only_idle packets) (length packets) (split_count packets)

each_some : (packets : List (List ℕ)) → AllByRecursion IsPacket packets → length packets ≤ length (concat packets)
each_some [] all = omega arith
each_some (packet ∷ packets) all = omega (arith, packet_least packet all.0, each_some packets all.1, length-append packet (concat packets))

-- octets have no more packets than octets
pub packets_within : (octets : List ℕ) → length (without_idle (packets_of octets)) + length (only_idle (packets_of octets)) ≤ length octets
packets_within octets =
    let has = each_has_packets octets in
    omega (arith, split_count (packets_of octets), each_some (packets_of octets) has.each, ap length has.end_to_end, length-append (concat (packets_of octets)) (rest_of octets))
