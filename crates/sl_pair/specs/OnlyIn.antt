-- Which packets only one of two recordings has, on one channel. The first copy of a packet in one recording stands for
-- the first copy of it in the other, the second for the second, and so on. A packet without a counterpart is one that
-- only its recording has.
use Rattle.std.specs.Prelude.{◌≡◌, ◌↔◌, ℕ, ◌+◌, ◌-◌, Bool, cond, List, [], ◌∷◌, ◌++◌, length, map, take, bytes_eq, nat_le}
use Rattle.std.specs.List.{filter, list_any, range_with_len, slice_index_or}
use Rattle.std.specs.List.Sorted.{IsPermutation}
use Rattle.sl_packet.specs.Sublist.{IsSublist}

-- the packets of a recording on one channel
abbrev pub Packets : Type 0
Packets = List (List ℕ)

-- how many copies of a packet there are
abbrev pub copies : List ℕ → Packets → ℕ
copies packet [] = 0
copies packet (first ∷ later) = cond (bytes_eq packet first) 1 0 + copies packet later

-- ---- by place

-- The packet at this place has no counterpart: the other recording has no more copies of it than there are before the
-- place.
abbrev pub is_only_at : Packets → Packets → ℕ → Bool
is_only_at packets others place =
    let packet = slice_index_or packets place [] in
    nat_le (copies packet others) (copies packet (take place packets))

-- the places of the packets without a counterpart, in rising order
abbrev pub only_places : Packets → Packets → List ℕ
only_places packets others = filter (is_only_at packets others) (range_with_len 0 (length packets))

-- ---- one after another

-- whether a packet is among packets
abbrev pub is_among : List ℕ → Packets → Bool
is_among packet packets = list_any (bytes_eq packet) packets

-- packets, without the first copy of this one
abbrev pub without_first : List ℕ → Packets → Packets
without_first packet [] = []
without_first packet (first ∷ later) = cond (bytes_eq packet first) later (first ∷ without_first packet later)

-- The packets without a counterpart. Each packet in turn is paired with the first equal one of the others that is left.
abbrev pub only_in : Packets → Packets → Packets
only_in [] others = []
only_in (packet ∷ later) others =
    cond (is_among packet others) (only_in later (without_first packet others)) (packet ∷ only_in later others)

-- the packets with a counterpart
abbrev pub in_both : Packets → Packets → Packets
in_both [] others = []
in_both (packet ∷ later) others =
    cond (is_among packet others) (packet ∷ in_both later (without_first packet others)) (in_both later others)

-- ---- laws

-- The packets at the places of `only_places` are those of `only_in`.
abbrev pub PlacesHavePackets : Type 0
PlacesHavePackets =
    (packets others : Packets)
    → map (λ place. slice_index_or packets place []) (only_places packets others) ≡ only_in packets others

-- Of each packet, as many copies are only in one recording as it has more of them than the other one.
abbrev pub CopiesAreSubtracted : Type 0
CopiesAreSubtracted =
    (packet : List ℕ) (packets others : Packets)
    → copies packet (only_in packets others) ≡ copies packet packets - copies packet others

-- They keep their order.
abbrev pub OrderIsKept : Type 0
OrderIsKept = (packets others : Packets) → IsSublist (only_in packets others) packets

-- Only which packets the other recording has matters, and not their order.
abbrev pub OthersOrderIsNothing : Type 0
OthersOrderIsNothing =
    (packets others reordered : Packets) → IsPermutation others reordered
    → only_in packets others ≡ only_in packets reordered

-- The packets of a recording are, in some order, those that both have and those that only it has.
abbrev pub EachIsDivided : Type 0
EachIsDivided =
    (packets others : Packets) → IsPermutation packets (in_both packets others ++ only_in packets others)

-- What both have is the same from either side, in some order.
abbrev pub BothHaveSame : Type 0
BothHaveSame = (packets others : Packets) → IsPermutation (in_both packets others) (in_both others packets)

-- Neither recording has a packet of its own exactly where both have the same packets in some order.
abbrev pub NoneMeansReordered : Type 0
NoneMeansReordered =
    (packets others : Packets)
    → ((only_in packets others ≡ []) × (only_in others packets ≡ [])) ↔ IsPermutation packets others

-- The numbers of packets differ as the numbers of those that only one recording has.
abbrev pub NumbersBalance : Type 0
NumbersBalance =
    (packets others : Packets)
    → length (only_in packets others) + length others ≡ length packets + length (only_in others packets)

-- Where a recording lost packets of another one and gained none, it has none of its own, and the other one has as many
-- of its own as were lost.
abbrev pub SublistLacksOnly : Type 0
SublistLacksOnly =
    (packets others : Packets) → IsSublist others packets
    → (only_in others packets ≡ []) × (length (only_in packets others) ≡ length packets - length others)

-- Where packets are divided into those that were kept and those that were lost, a recording of the kept ones lacks
-- exactly those that were lost, in some order.
abbrev pub LacksWhatWasLost : Type 0
LacksWhatWasLost =
    (packets kept lost : Packets) → IsPermutation packets (kept ++ lost)
    → IsPermutation (only_in packets kept) lost × (only_in kept packets ≡ [])
