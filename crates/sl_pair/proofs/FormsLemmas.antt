-- The forms of one definition: packet after packet, by place, and with numbers.
use Rattle.std.proofs.Common.{◌≡◌, List, [], ◌∷◌, ◌++◌, map, inl, inr, refl, ◌∙◌, ap}
use Rattle.std.proofs.lemmas.Bool.{cases_Bool}
use Rattle.sl_pair.specs.OnlyIn.{Packets, PlacesHavePackets, is_among, only_in, without_first}
use Rattle.sl_pair.specs.Placed.{FormsAreOne, Placed, all_placed_after, left_in, only_placed, placed}
use Rattle.sl_pair.proofs.PlacedLemmas.{numbers_are, packets_at_places}

abbrev packets_of : List Placed → Packets
packets_of all = map (λ (one : Placed). one.packet) all

-- the packets with their numbers are the packets
packets_after : (before packets : Packets) → packets_of (all_placed_after before packets) ≡ packets
packets_after before [] = refl
packets_after before (packet ∷ later) = ap (λ l. packet ∷ l) (packets_after (before ++ packet ∷ []) later)

only_packets : (all : List Placed) (others : Packets) → packets_of (only_placed all others) ≡ only_in (packets_of all) others
only_packets [] others = refl
only_packets (one ∷ later) others = elim (cases_Bool (is_among one.packet others)) [
  | inl among ↦ rw among (only_packets later (without_first one.packet others))
  | inr none ↦ rw none (ap (λ l. one.packet ∷ l) (only_packets later others))
]

pub packets_are : (packets others : Packets) → packets_of (left_in packets others) ≡ only_in packets others
packets_are packets others = only_packets (placed packets) others ∙ ap (λ l. only_in l others) (packets_after [] packets)

pub places_have_packets : PlacesHavePackets
places_have_packets packets others = packets_at_places packets others ∙ packets_are packets others

pub forms_are_one : FormsAreOne
forms_are_one packets others = record { packets_are = packets_are packets others; numbers_are = numbers_are packets others }
