-- What octets lack for a whole space packet, CCSDS 133.0-B, at their front.
use Rattle.std.specs.Prelude.{◌≡◌, ◌↔◌, ◌⊎◌, ℕ, ◌+◌, ◌-◌, nat_lt, if◌then◌else◌, List, ◌++◌, length}
use Rattle.sl_packet.specs.Packet.{IsPacket, stated_packet_len}
use Rattle.sl_packet.specs.Front.{front_of, is_foreign}
use Rattle.sl_packet.specs.Front as fronts
use Rattle.sl_packet.specs.declared.partial.Need.{Need}
use Rattle.sl_packet.specs.declared.partial.Need.TheVariants.{Foreign, Header, Octets, Whole}

-- The need of octets. Octets of another version than 0 are foreign. Fewer than six octets lack the
-- rest of a header. Six octets or more lack the rest of the octets that their header states, or
-- nothing.
abbrev pub need_of : List ℕ → Need
need_of octets =
    if is_foreign octets then Foreign
    else if nat_lt (length octets) 6 then Header (6 - length octets)
    else if nat_lt (length octets) (stated_packet_len octets) then Octets (stated_packet_len octets - length octets)
    else Whole (stated_packet_len octets)

-- octets with this need are the front of a packet, and aren't a whole one
abbrev pub LacksOctets : Need → Type 0
LacksOctets need = ((n : ℕ) × (need ≡ Header n)) ⊎ ((n : ℕ) × (need ≡ Octets n))

-- ---- laws

-- The need of octets is foreign exactly where their front is.
abbrev pub ForeignIsForeign : Type 0
ForeignIsForeign = (octets : List ℕ) → need_of octets ≡ Foreign ↔ (front_of octets ≡ fronts.OtherVersion)

-- The need of octets is whole exactly where their front is.
abbrev pub WholeIsWhole : Type 0
WholeIsWhole = (octets : List ℕ) (n : ℕ) → need_of octets ≡ Whole n ↔ (front_of octets ≡ fronts.WholePacket n)

-- Where the need is `Header k`, the octets and `k` further ones are the six octets of a header.
abbrev pub HeaderHasSixOctets : Type 0
HeaderHasSixOctets = (octets : List ℕ) (k : ℕ) → need_of octets ≡ Header k → length octets + k ≡ 6

-- Where the need is `Octets n`, the octets and any `n` further ones are a packet.
abbrev pub OctetsMakeAPacket : Type 0
OctetsMakeAPacket =
    (octets more : List ℕ) (n : ℕ) → need_of octets ≡ Octets n → length more ≡ n → IsPacket (octets ++ more)
