-- The space packets, CCSDS 133.0-B, that lie end to end at the front of octets.
use Rattle.std.specs.Prelude.{◌≡◌, ℕ, zero, suc, ◌-◌, not, List, [], ◌∷◌, ◌++◌, length, take, drop, Option, option_map, IfSome, IfNone}
use denote.Ref.{Bor}
use Rattle.std.specs.Iterator.{YieldsFirstBy}
use Rattle.std.specs.List.{AllByRecursion, concat, filter}
use Rattle.sl_packet.specs.Packet.{IsPacket, is_idle_packet}
use Rattle.sl_packet.specs.Front.{Front, OtherVersion, Incomplete, WholePacket, front_of, first_packet_of}

-- ---- the packets at the front

-- The packets at the front of octets: they lie end to end from the first octet on, up to the first
-- offset at which no whole packet begins. The octets from this offset on are left.
pub record ArePacketsOf (octets : List ℕ) (packets : List (List ℕ)) (rest : List ℕ) : Type 0 where
  pub end_to_end : octets ≡ concat packets ++ rest
  pub each : AllByRecursion IsPacket packets
  pub no_more : (packet more : List ℕ) → IsPacket packet → rest ≡ packet ++ more → ⊥

-- ---- the packets at the front, as functions of the octets

-- The law `octets_have_packets` says that `packets_of` and `rest_of` are the packets and the octets
-- that are left, and that there are no others. The law `front_packets_are_longest` says that no
-- list of packets end to end at the front is longer.

-- the packet of a front, as a list of one or none
abbrev pub whole_at : Front → List ℕ → List (List ℕ)
whole_at OtherVersion octets = []
whole_at Incomplete octets = []
whole_at (WholePacket len) octets = take len octets ∷ []

-- How many octets after the first one of these octets belong to the packet that begins with it. Where
-- none begins, a number that is greater than that of all octets after the first one.
abbrev pub octets_passed : Front → List ℕ → ℕ
octets_passed OtherVersion octets = length octets
octets_passed Incomplete octets = length octets
octets_passed (WholePacket len) octets = len - 1

-- The packets that lie end to end after the first `skip` octets, which belong to the packet before.
-- The recursion goes over the octets one by one.
abbrev pub packets_from : ℕ → List ℕ → List (List ℕ)
packets_from skip [] = []
packets_from (suc skip) (octet ∷ octets) = packets_from skip octets
packets_from zero (octet ∷ octets) =
    whole_at (front_of (octet ∷ octets)) (octet ∷ octets)
    ++ packets_from (octets_passed (front_of (octet ∷ octets)) (octet ∷ octets)) octets

-- the packets at the front of octets
abbrev pub packets_of : List ℕ → List (List ℕ)
packets_of octets = packets_from 0 octets

-- the octets that are left after the packets
abbrev pub rest_of : List ℕ → List ℕ
rest_of octets = drop (length (concat (packets_of octets))) octets

-- ---- idle packets among them

-- the idle packets among packets
abbrev pub only_idle : List (List ℕ) → List (List ℕ)
only_idle packets = filter is_idle_packet packets

-- packets without the idle ones
abbrev pub without_idle : List (List ℕ) → List (List ℕ)
without_idle packets = filter (λ packet. not (is_idle_packet packet)) packets

-- ---- laws

-- The functions give the packets at the front, and the octets that are left.
abbrev pub EachHasPackets : Type 0
EachHasPackets = (octets : List ℕ) → ArePacketsOf octets (packets_of octets) (rest_of octets)

-- If octets are these packets at the front and this rest, then the functions give these packets and
-- this rest.
abbrev pub HasPacketsOnce : Type 0
HasPacketsOnce =
    (octets : List ℕ) (packets : List (List ℕ)) (rest : List ℕ) → ArePacketsOf octets packets rest
    → (packets_of octets ≡ packets) × (rest_of octets ≡ rest)

-- Every list of packets that lie end to end at the front of the octets is a prefix of the list that
-- `packets_of` gives.
abbrev pub OthersArePrefixes : Type 0
OthersArePrefixes =
    (octets more : List ℕ) (others : List (List ℕ)) → octets ≡ concat others ++ more → AllByRecursion IsPacket others
    → (later : List (List ℕ)) × (packets_of octets ≡ others ++ later)

-- ---- what a call of `next` yields

-- Where a packet is given, the packets of the old octets are this packet and then the packets of
-- the new octets. Where none is given, the old octets and the new ones have no packets.
abbrev pub GivesFirst : List ℕ → Option (Bor (List ℕ)) → List ℕ → Type 0
GivesFirst = YieldsFirstBy (λ packet. packet.now) packets_of

-- The packet at the front of the old octets is given, and the octets after it are the new ones.
-- Where no packet is there, none is given, and all octets are left. A `Bor` is a slice that is
-- lent, and `now` is its octets.
pub record GivesPacket (old : List ℕ) (given : Option (Bor (List ℕ))) (new : List ℕ) : Type 0 where
  pub packets : GivesFirst old given new
  pub first : option_map (λ packet. packet.now) given ≡ first_packet_of old
  pub taken : IfSome given (λ packet. old ≡ packet.now ++ new)
  pub unchanged : IfNone given (new ≡ old)
  -- The octets after the last packet stay the same. Where no packet is given, these octets are the
  -- new ones.
  pub same_rest : rest_of new ≡ rest_of old
  pub all_given : IfNone given (new ≡ rest_of old)
