-- Packets without the idle ones, and the idle ones alone.
use Rattle.std.proofs.Common.{◌≡◌, Bool, true, false, not, cond, ℕ, List, [], ◌∷◌, ◌++◌, refl}
use Rattle.std.specs.List.{AllByRecursion}
use Rattle.std.proofs.lemmas.List.Elements.{filter-append}
use Rattle.sl_fields.proofs.ListLemmas.{each-weaker}
use Rattle.sl_packet.specs.Delivered.{IsDeliverable}
use Rattle.sl_packet.specs.Packet.{IsPacket, is_idle_packet}
use Rattle.sl_packet.specs.Packets.{only_idle, without_idle}

next_due : (packet : List ℕ) (due : List (List ℕ)) (idle : Bool) → is_idle_packet packet ≡ idle → IsPacket packet
    → AllByRecursion IsDeliverable due → AllByRecursion IsDeliverable (cond (not idle) (packet ∷ due) due)
next_due packet due true is here later = later
next_due packet due false is here later = ((here, is), later)

pub without_idle-append : (xs ys : List (List ℕ)) → without_idle (xs ++ ys) ≡ without_idle xs ++ without_idle ys
without_idle-append xs ys = filter-append (λ packet. not (is_idle_packet packet)) xs ys

pub only_idle-append : (xs ys : List (List ℕ)) → only_idle (xs ++ ys) ≡ only_idle xs ++ only_idle ys
only_idle-append xs ys = filter-append is_idle_packet xs ys

-- packets without the idle ones may be delivered
pub without_idle_due : (packets : List (List ℕ)) → AllByRecursion IsPacket packets → AllByRecursion IsDeliverable (without_idle packets)
without_idle_due [] each = tt
without_idle_due (packet ∷ packets) each =
    next_due packet (without_idle packets) (is_idle_packet packet) refl each.0 (without_idle_due packets each.1)

-- deliverable lists are lists of packets
pub due_packets : (packets : List (List ℕ)) → AllByRecursion IsDeliverable packets → AllByRecursion IsPacket packets
due_packets packets each = each-weaker IsDeliverable IsPacket (λ packet is. is.0) packets each
