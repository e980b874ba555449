-- Packets, and the fields in their first octets.
use Rattle.std.proofs.Common.{◌≡◌, ℕ, ◌+◌, ◌-◌, ◌*◌, ◌/◌, ◌%◌, ◌^◌, ◌<◌, ◌≤◌, List, [], ◌∷◌, ◌++◌, length, take, drop, refl, sym, ◌∙◌, ap, arith, length-append, length-drop}
use Rattle.std.proofs.Math.Nat.{add-mul, mul_assoc, add_assoc}
use Rattle.std.proofs.lemmas.List.{take-append-le, take-take, take-append-drop, take_at, length-take}
use Rattle.std.proofs.lemmas.List.Elements.{All-take, All-drop}
use Rattle.std.proofs.lemmas.Nat.{pow-add, shr-shr, shr_high}
use Rattle.sl_fields.proofs.Octets.{number_of_lt}
use Rattle.sl_fields.specs.Field.{IsOctets, field, number_of}
use Rattle.sl_fields.specs.PacketHeader.{packet_header}
use Rattle.sl_packet.specs.Packet.{version_of, stated_packet_len, IsPacket, OnePacketIsPrefix, HeaderFieldsStandFirst}

-- a packet has a header and one octet at least
pub packet_least : (packet : List ℕ) → IsPacket packet → 7 ≤ length packet
packet_least packet p = let e = p.len in omega arith

-- octets after the version and the header don't change them
pub version_of-append : (octets more : List ℕ) → 1 ≤ length octets → version_of (octets ++ more) ≡ version_of octets
version_of-append octets more h = ap (λ xs. field 1 0 3 xs) (take-append-le 1 octets more h)

pub stated_packet_len-append : (octets more : List ℕ) → 6 ≤ length octets → stated_packet_len (octets ++ more) ≡ stated_packet_len octets
stated_packet_len-append octets more h = ap (λ xs. 7 + (packet_header xs).length) (take-append-le 6 octets more h)

-- the version and the header are the same in the first octets alone
pub version_of-take : (len : ℕ) (octets : List ℕ) → 1 ≤ len → version_of (take len octets) ≡ version_of octets
version_of-take len octets h = ap (λ xs. field 1 0 3 xs) (take-take 1 len octets h)

pub stated_packet_len-take : (len : ℕ) (octets : List ℕ) → 6 ≤ len → stated_packet_len (take len octets) ≡ stated_packet_len octets
stated_packet_len-take len octets h = ap (λ xs. 7 + (packet_header xs).length) (take-take 6 len octets h)

-- octets that begin with a packet state the packet's length
pub stated_packet_len-packet : (packet more : List ℕ) → IsPacket packet → stated_packet_len (packet ++ more) ≡ length packet
stated_packet_len-packet packet more p =
    let least = packet_least packet p in
    stated_packet_len-append packet more (omega arith) ∙ sym p.len

pub version_of-packet : (packet more : List ℕ) → IsPacket packet → version_of (packet ++ more) ≡ 0
version_of-packet packet more p =
    let least = packet_least packet p in
    version_of-append packet more (omega arith) ∙ p.version

-- ---- the laws

pub one_packet : OnePacketIsPrefix
one_packet p q p' q' is_p is_q same =
    let long : length p ≡ length q = sym (stated_packet_len-packet p p' is_p) ∙ ap stated_packet_len same ∙ stated_packet_len-packet q q' is_q in
    sym (take_at p p' (length q) long) ∙ ap (λ xs. take (length q) xs) same ∙ take_at q q' (length q) refl

-- the number of octets, from the numbers of the first octets and of the later ones
number_of-append : (xs ys : List ℕ) → number_of (xs ++ ys) ≡ number_of xs * 256 ^ length ys + number_of ys
number_of-append [] ys = omega arith
number_of-append (x ∷ xs) ys =
    rw (length-append xs ys, pow-add 256 (length xs) (length ys), number_of-append xs ys, add-mul (x * 256 ^ length xs) (number_of xs) (256 ^ length ys), mul_assoc x (256 ^ length xs) (256 ^ length ys))
    (sym (add_assoc (x * (256 ^ length xs * 256 ^ length ys)) (number_of xs * 256 ^ length ys) (number_of ys)))

high_bits : (xs ys : List ℕ) (j k : ℕ) → IsOctets ys → 256 ^ length ys ≡ 2 ^ j → number_of (xs ++ ys) / 2 ^ (j + k) ≡ number_of xs / 2 ^ k
high_bits xs ys j k each size =
    let low : number_of ys < 2 ^ j = rw (← size) (number_of_lt ys each) in
    sym (shr-shr (number_of (xs ++ ys)) j k)
    ∙ ap (λ n. n / 2 ^ k) (rw (number_of-append xs ys, size) (shr_high (number_of xs) j (number_of ys) low))

-- a field in the first octets of six is a field of these first octets alone
field_in_front : (octets : List ℕ) (i j k width : ℕ) → IsOctets octets → 6 ≤ length octets → i ≤ 6 → 256 ^ (6 - i) ≡ 2 ^ j → number_of (take i octets) / 2 ^ k % 2 ^ width ≡ number_of (take 6 octets) / 2 ^ (j + k) % 2 ^ width
field_in_front octets i j k width each long inside size =
    let six = take 6 octets in
    let rest : length (drop i six) ≡ 6 - i = omega (arith, length-drop i six, length-take 6 octets) in
    let split : take i octets ++ drop i six ≡ six = ap (λ xs. xs ++ drop i six) (sym (take-take i 6 octets inside)) ∙ take-append-drop i six in
    let octets_too : IsOctets (drop i six) = All-drop (λ octet. octet < 256) i six (All-take (λ octet. octet < 256) 6 octets each) in
    ap (λ n. n % 2 ^ width)
    (sym (high_bits (take i octets) (drop i six) j k octets_too (ap (λ n. 256 ^ n) rest ∙ size))
    ∙ ap (λ xs. number_of xs / 2 ^ (j + k)) split)

pub header_fields : HeaderFieldsStandFirst
header_fields octets each long =
    (field_in_front octets 1 40 5 3 each long (omega arith) refl, field_in_front octets 2 32 0 11 each long (omega arith) refl)
