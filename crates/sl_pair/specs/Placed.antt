-- Packets with their numbers in a recording, on one channel.
use Rattle.std.specs.Prelude.{◌≡◌, ℕ, ◌+◌, ◌==◌, ◌<◌, Bool, cond, List, [], ◌∷◌, ◌++◌, length, map, take}
use Rattle.std.specs.List.{filter, range_with_len, slice_index_or}
use Rattle.sl_packet.specs.Packet.{apid_of}
use Rattle.sl_pair.specs.OnlyIn.{Packets, copies, is_among, only_in, only_places, without_first}

-- A packet of a recording: its number among the packets of its channel, and its number among those of its channel and
-- APID. Both count from 0.
pub record Placed : Type 0 where
  pub packet : List ℕ
  pub number : ℕ
  pub apid_number : ℕ

-- how many packets have this APID
abbrev pub count_apid : ℕ → Packets → ℕ
count_apid apid [] = 0
count_apid apid (packet ∷ later) = cond (apid_of packet == apid) 1 0 + count_apid apid later

-- a packet that comes after others
abbrev pub placed_after : Packets → List ℕ → Placed
placed_after before packet =
    record { packet = packet; number = length before; apid_number = count_apid (apid_of packet) before }

-- packets that come after others, each with its numbers
abbrev pub all_placed_after : Packets → Packets → List Placed
all_placed_after before [] = []
all_placed_after before (packet ∷ later) =
    placed_after before packet ∷ all_placed_after (before ++ packet ∷ []) later

-- the packets of a recording, each with its numbers
abbrev pub placed : Packets → List Placed
placed packets = all_placed_after [] packets

-- those without a counterpart among the others, one after another as `only_in` has them
abbrev pub only_placed : List Placed → Packets → List Placed
only_placed [] others = []
only_placed (one ∷ later) others =
    cond (is_among one.packet others) (only_placed later (without_first one.packet others))
    (one ∷ only_placed later others)

-- a packet has this APID
abbrev pub has_apid : ℕ → Placed → Bool
has_apid apid one = apid_of one.packet == apid

-- the packets that only this recording has, with their numbers in it
abbrev pub left_in : Packets → Packets → List Placed
left_in packets others = only_placed (placed packets) others

-- Two packets are counterparts: they are equal, and as many copies stand before the one as before the other. So the
-- first copy stands for the first, the second for the second, and so on.
pub record AreCounterparts (packets others : Packets) (number other_number : ℕ) : Type 0 where
  pub inside : number < length packets
  pub other_inside : other_number < length others
  pub same : slice_index_or packets number [] ≡ slice_index_or others other_number []
  pub as_many : copies (slice_index_or packets number []) (take number packets)
      ≡ copies (slice_index_or others other_number []) (take other_number others)

-- each packet that has a counterpart has the same number there
abbrev pub AreInPlace : Packets → Packets → Type 0
AreInPlace packets others =
    (number other_number : ℕ) → AreCounterparts packets others number other_number → number ≡ other_number

-- ---- laws

-- The packets with their numbers are those of the two other forms: the packets of `only_in`, at the places of
-- `only_places`.
pub record IsOneDefinition (packets others : Packets) : Type 0 where
  pub packets_are : map (λ (one : Placed). one.packet) (left_in packets others) ≡ only_in packets others
  pub numbers_are : map (λ (one : Placed). one.number) (left_in packets others) ≡ only_places packets others

abbrev pub FormsAreOne : Type 0
FormsAreOne = (packets others : Packets) → IsOneDefinition packets others

-- The packets of a recording have the numbers 0, 1, 2 and so on, and so have those of each APID among themselves.
pub record AreNumbered (packets : Packets) : Type 0 where
  pub all : map (λ (one : Placed). one.number) (placed packets) ≡ range_with_len 0 (length packets)
  pub each : (apid : ℕ)
      → map (λ (one : Placed). one.apid_number) (filter (has_apid apid) (placed packets))
      ≡ range_with_len 0 (count_apid apid packets)

abbrev pub NumbersCount : Type 0
NumbersCount = (packets : Packets) → AreNumbered packets

-- Two recordings have the same packets in the same order exactly where neither has a packet of its own and each packet
-- has the number of its counterpart.
abbrev pub SameMeansInPlace : Type 0
SameMeansInPlace =
    (packets others : Packets)
    → ((only_in packets others ≡ []) × (only_in others packets ≡ []) × AreInPlace packets others → packets ≡ others)
    × (packets ≡ others → (only_in packets others ≡ []) × (only_in others packets ≡ []) × AreInPlace packets others)
