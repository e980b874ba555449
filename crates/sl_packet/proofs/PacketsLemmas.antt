-- The packets at the front of octets.
use Rattle.std.proofs.Common.{◌≡◌, ◌⊎◌, ℕ, zero, suc, ◌+◌, ◌-◌, ◌≤◌, List, [], ◌∷◌, ◌++◌, length, take, drop, inl, inr, refl, sym, ◌∙◌, ap, arith, length-append, length-drop, append-nil, append_assoc}
use Rattle.std.specs.List.{AllByRecursion, concat}
use Rattle.std.proofs.lemmas.List.{drop-drop, drop_all, drop_at, take_at, take-append-drop, length-take-le}
use Rattle.sl_packet.specs.Packet.{IsPacket}
use Rattle.sl_packet.specs.Front.{Front, OtherVersion, Incomplete, WholePacket, front_of}
use Rattle.sl_packet.specs.Packets.{whole_at, octets_passed, packets_from, packets_of, rest_of, ArePacketsOf, EachHasPackets, HasPacketsOnce, OthersArePrefixes}
use Rattle.sl_packet.proofs.FrontLemmas.{whole_front, whole_is_a_packet, packet_is_whole}

packets_from-drop : (skip : ℕ) (octets : List ℕ) → packets_from skip octets ≡ packets_of (drop skip octets)
packets_from-drop zero octets = refl
packets_from-drop (suc skip) [] = refl
packets_from-drop (suc skip) (octet ∷ octets) = packets_from-drop skip octets

-- where the front is whole, its packet is the first one
pub packets_of-whole : (octets : List ℕ) (len : ℕ) → front_of octets ≡ WholePacket len → packets_of octets ≡ take len octets ∷ packets_of (drop len octets)
packets_of-whole [] len h = absurd (cc)
packets_of-whole (octet ∷ octets) zero h = absurd (let w = whole_front (octet ∷ octets) zero h in omega arith)
packets_of-whole (octet ∷ octets) (suc len) h =
    let one_less : suc len - 1 ≡ len = omega arith in
    ap (λ f. whole_at f (octet ∷ octets) ++ packets_from (octets_passed f (octet ∷ octets)) octets) h
    ∙ ap (λ k. take (suc len) (octet ∷ octets) ∷ packets_from k octets) one_less
    ∙ ap (λ packets. take (suc len) (octet ∷ octets) ∷ packets) (packets_from-drop len octets)

pub rest_of-whole : (octets : List ℕ) (len : ℕ) → front_of octets ≡ WholePacket len → rest_of octets ≡ rest_of (drop len octets)
rest_of-whole octets len h =
    let later = packets_of (drop len octets) in
    let inside = (whole_front octets len h).inside in
    let long : length (take len octets ++ concat later) ≡ len + length (concat later) = omega (arith, length-append (take len octets) (concat later), length-take-le len octets inside) in
    ap (λ packets. drop (length (concat packets)) octets) (packets_of-whole octets len h)
    ∙ ap (λ n. drop n octets) long ∙ sym (drop-drop (length (concat later)) len octets)

-- where the front isn't whole, there are no packets
no_packet_at : (f : Front) (octets after : List ℕ) → ((len : ℕ) → f ≡ WholePacket len → ⊥) → whole_at f octets ++ packets_from (octets_passed f octets) after ≡ packets_from (length octets) after
no_packet_at OtherVersion octets after h = refl
no_packet_at Incomplete octets after h = refl
no_packet_at (WholePacket len) octets after h = absurd (h len refl)

pub packets_of-none : (octets : List ℕ) → ((len : ℕ) → front_of octets ≡ WholePacket len → ⊥) → packets_of octets ≡ []
packets_of-none [] h = refl
packets_of-none (octet ∷ octets) h =
    no_packet_at (front_of (octet ∷ octets)) (octet ∷ octets) octets h ∙ packets_from-drop (length (octet ∷ octets)) octets
    ∙ ap packets_of (drop_all (length (octet ∷ octets)) octets (omega arith))

pub rest_of-none : (octets : List ℕ) → ((len : ℕ) → front_of octets ≡ WholePacket len → ⊥) → rest_of octets ≡ octets
rest_of-none octets h = ap (λ packets. drop (length (concat packets)) octets) (packets_of-none octets h)

pub cases_front : (f : Front) → ((len : ℕ) × (f ≡ WholePacket len)) ⊎ ((len : ℕ) → f ≡ WholePacket len → ⊥)
cases_front OtherVersion = inr (λ len h. cc)
cases_front Incomplete = inr (λ len h. cc)
cases_front (WholePacket len) = inl (len, refl)

-- the packets of a packet and the octets after it
pub packets_of-packet : (packet more : List ℕ) → IsPacket packet → packets_of (packet ++ more) ≡ packet ∷ packets_of more
packets_of-packet packet more p =
    packets_of-whole (packet ++ more) (length packet) (packet_is_whole packet more p)
    ∙ ap (λ xs. xs ∷ packets_of (drop (length packet) (packet ++ more))) (take_at packet more (length packet) refl)
    ∙ ap (λ xs. packet ∷ packets_of xs) (drop_at packet more (length packet) refl)

pub rest_of-packet : (packet more : List ℕ) → IsPacket packet → rest_of (packet ++ more) ≡ rest_of more
rest_of-packet packet more p =
    rest_of-whole (packet ++ more) (length packet) (packet_is_whole packet more p)
    ∙ ap rest_of (drop_at packet more (length packet) refl)

-- the packets of packets end to end and the octets after them
pub packets_of-concat : (packets : List (List ℕ)) (more : List ℕ) → AllByRecursion IsPacket packets → packets_of (concat packets ++ more) ≡ packets ++ packets_of more
packets_of-concat [] more each = refl
packets_of-concat (packet ∷ packets) more each =
    ap packets_of (append_assoc packet (concat packets) more) ∙ packets_of-packet packet (concat packets ++ more) each.0
    ∙ ap (λ later. packet ∷ later) (packets_of-concat packets more each.1)

pub rest_of-concat : (packets : List (List ℕ)) (more : List ℕ) → AllByRecursion IsPacket packets → rest_of (concat packets ++ more) ≡ rest_of more
rest_of-concat [] more each = refl
rest_of-concat (packet ∷ packets) more each =
    ap rest_of (append_assoc packet (concat packets) more) ∙ rest_of-packet packet (concat packets ++ more) each.0
    ∙ rest_of-concat packets more each.1

-- ---- the laws

are_same : (octets : List ℕ) (ps qs : List (List ℕ)) (r s : List ℕ) → qs ≡ ps → s ≡ r → ArePacketsOf octets ps r → ArePacketsOf octets qs s
are_same octets ps qs r s e h a = rw (e, h) a

one_before : (octets : List ℕ) (len : ℕ) (packets : List (List ℕ)) (rest : List ℕ) → front_of octets ≡ WholePacket len → ArePacketsOf (drop len octets) packets rest → ArePacketsOf octets (take len octets ∷ packets) rest
one_before octets len packets rest h a = record {
  end_to_end =
      sym (take-append-drop len octets) ∙ ap (λ xs. take len octets ++ xs) a.end_to_end
      ∙ sym (append_assoc (take len octets) (concat packets) rest);
  each = ((whole_is_a_packet octets len h).0, a.each);
  no_more = a.no_more;
}

no_packet_before : (octets : List ℕ) → ((len : ℕ) → front_of octets ≡ WholePacket len → ⊥) → ArePacketsOf octets [] octets
no_packet_before octets h = record {
  end_to_end = refl;
  each = tt;
  no_more = λ packet more p e. h (length packet) (ap front_of e ∙ packet_is_whole packet more p);
}

has_packets_if : (octets : List ℕ) → ((len : ℕ) → front_of octets ≡ WholePacket len → ArePacketsOf (drop len octets) (packets_of (drop len octets)) (rest_of (drop len octets))) → ArePacketsOf octets (packets_of octets) (rest_of octets)
has_packets_if octets later =
    elim (cases_front (front_of octets)) [
      | inl (len, whole) ↦
          are_same octets (take len octets ∷ packets_of (drop len octets)) (packets_of octets) (rest_of (drop len octets)) (rest_of octets)
          (packets_of-whole octets len whole) (rest_of-whole octets len whole)
          (one_before octets len (packets_of (drop len octets)) (rest_of (drop len octets)) whole (later len whole))
      | inr none ↦
          are_same octets [] (packets_of octets) octets (rest_of octets) (packets_of-none octets none) (rest_of-none octets none) (no_packet_before octets none)
    ]

has_packets : (bound : ℕ) (octets : List ℕ) → length octets ≤ bound → ArePacketsOf octets (packets_of octets) (rest_of octets)
has_packets zero octets h =
    has_packets_if octets (λ len whole. absurd (let w = whole_front octets len whole in let some = w.least in let fits = w.inside in omega arith))
has_packets (suc bound) octets h =
    has_packets_if octets (λ len whole. let w = whole_front octets len whole in let some = w.least in let fits = w.inside in has_packets bound (drop len octets) (omega (arith, length-drop len octets)))

pub each_has_packets : EachHasPackets
each_has_packets octets = has_packets (length octets) octets (omega arith)

pub has_packets_once : HasPacketsOnce
has_packets_once octets packets rest a =
    let none = λ (len : ℕ) (h : front_of rest ≡ WholePacket len). a.no_more (take len rest) (drop len rest) (whole_is_a_packet rest len h).0 (sym (take-append-drop len rest)) in (
      ap packets_of a.end_to_end ∙ packets_of-concat packets rest a.each ∙ ap (λ later. packets ++ later) (packets_of-none rest none) ∙ append-nil packets,
      ap rest_of a.end_to_end ∙ rest_of-concat packets rest a.each ∙ rest_of-none rest none,
    )

pub others_are_prefixes : OthersArePrefixes
others_are_prefixes octets more others same each = (packets_of more, ap packets_of same ∙ packets_of-concat others more each)
