-- The front of octets.
use Rattle.std.proofs.Common.{◌≡◌, ℕ, ◌+◌, ◌-◌, ◌<◌, ◌≤◌, ◌==◌, ◌&&◌, nat_lt, Bool, true, false, not, if◌then◌else◌, List, [], ◌∷◌, ◌++◌, length, replicate, inl, inr, refl, sym, ◌∙◌, ap, arith, length-append}
use Rattle.std.proofs.lemmas.Bool.{ltb-false, ltb-true, le-ltb, cases_lt}
use Rattle.std.proofs.lemmas.Bool.Decides.{nat_tests}
use Rattle.std.proofs.lemmas.List.{length-take-le, length-replicate, take-replicate}
use Rattle.std.proofs.lemmas.List.Elements.{All-replicate}
use Rattle.sl_fields.specs.Field.{field}
use Rattle.sl_fields.specs.PacketHeader.{packet_header}
use Rattle.sl_packet.specs.Packet.{version_of, stated_packet_len, IsPacket}
use Rattle.sl_packet.specs.Front.{OtherVersion, Incomplete, WholePacket, is_foreign, front_of, WholeIsAPacket, APacketIsWhole, ForeignIsNoPacket, IncompleteMayBecomeWhole}
use Rattle.sl_packet.proofs.Filling.{take_filled}
use Rattle.sl_packet.proofs.PacketLemmas.{version_of-append, stated_packet_len-append, version_of-take, stated_packet_len-take, stated_packet_len-packet, version_of-packet}

-- the tests that decide a front
whole_tests : (f i : Bool) (n len : ℕ) → (if f then OtherVersion else if i then Incomplete else WholePacket n) ≡ WholePacket len → (f ≡ false) × (i ≡ false) × (n ≡ len)
whole_tests true i n len h = absurd (cc)
whole_tests false true n len h = absurd (cc)
whole_tests false false n len h = (refl, refl, (cc))

incomplete_tests : (f i : Bool) (n : ℕ) → (if f then OtherVersion else if i then Incomplete else WholePacket n) ≡ Incomplete → (f ≡ false) × (i ≡ true)
incomplete_tests true i n h = absurd (cc)
incomplete_tests false true n h = (refl, refl)
incomplete_tests false false n h = absurd (cc)

pub foreign_tests : (f i : Bool) (n : ℕ) → (if f then OtherVersion else if i then Incomplete else WholePacket n) ≡ OtherVersion → f ≡ true
foreign_tests true i n h = refl
foreign_tests false true n h = absurd (cc)
foreign_tests false false n h = absurd (cc)

from_tests : (f i : Bool) (n : ℕ) → f ≡ false → i ≡ false → (if f then OtherVersion else if i then Incomplete else WholePacket n) ≡ WholePacket n
from_tests true i n e h = absurd (cc)
from_tests false true n e h = absurd (cc)
from_tests false false n e h = refl

pub foreign_true : (n v : ℕ) → (nat_lt 0 n && not (v == 0)) ≡ true → (0 < n) × (v ≡ 0 → ⊥)
foreign_true n v h = grind (arith, nat_tests)

foreign_false : (n v : ℕ) → (nat_lt 0 n && not (v == 0)) ≡ false → 0 < n → v ≡ 0
foreign_false n v h some = grind (arith, nat_tests)

pub not_foreign : (n v : ℕ) → v ≡ 0 → (nat_lt 0 n && not (v == 0)) ≡ false
not_foreign n v h = grind (arith, nat_tests)

-- octets with a whole front have version 0, state this length, and are long enough
pub record IsWholeFront (octets : List ℕ) (n : ℕ) : Type 0 where
  pub version : version_of octets ≡ 0
  pub len : stated_packet_len octets ≡ n
  pub inside : n ≤ length octets
  pub least : 7 ≤ n

pub whole_front : (octets : List ℕ) (len : ℕ) → front_of octets ≡ WholePacket len → IsWholeFront octets len
whole_front octets len h =
    let tests = whole_tests (is_foreign octets) (nat_lt (length octets) (stated_packet_len octets)) (stated_packet_len octets) len h in
    let fits : stated_packet_len octets ≤ length octets = ltb-false (length octets) (stated_packet_len octets) tests.1 in
    let same = tests.2 in
    let some : 0 < length octets = omega arith in
    record {
      version = foreign_false (length octets) (version_of octets) tests.0 some;
      len = same;
      inside = omega arith;
      least = omega arith;
    }

pub whole_is_a_packet : WholeIsAPacket
whole_is_a_packet octets len h =
    let w = whole_front octets len h in
    let least = w.least in (
      record {
        version = version_of-take len octets (omega arith) ∙ w.version;
        len = length-take-le len octets w.inside ∙ sym w.len ∙ sym (stated_packet_len-take len octets (omega arith));
      },
      w.inside,
    )

pub packet_is_whole : APacketIsWhole
packet_is_whole packet more p =
    let octets = packet ++ more in
    let len : stated_packet_len octets ≡ length packet = stated_packet_len-packet packet more p in
    let inside : stated_packet_len octets ≤ length octets = omega (arith, length-append packet more) in
    from_tests (is_foreign octets) (nat_lt (length octets) (stated_packet_len octets)) (stated_packet_len octets)
    (not_foreign (length octets) (version_of octets) (version_of-packet packet more p)) (le-ltb (length octets) (stated_packet_len octets) inside)
    ∙ ap WholePacket len

pub foreign_is_no_packet : ForeignIsNoPacket
foreign_is_no_packet octets more packet rest h same p =
    let tests = foreign_true (length octets) (version_of octets) (foreign_tests (is_foreign octets) (nat_lt (length octets) (stated_packet_len octets)) (stated_packet_len octets) h) in
    tests.1 (sym (version_of-append octets more tests.0) ∙ ap version_of same ∙ version_of-packet packet rest p)

-- zeros are of version 0
filled_version : (octets : List ℕ) (k : ℕ) → (0 < length octets → version_of octets ≡ 0) → 0 < length octets + k → version_of (octets ++ replicate k 0) ≡ 0
filled_version [] k version some = ap (λ xs. field 1 0 3 xs) (take-replicate 1 k 0 (omega arith))
filled_version (x ∷ octets) k version some = version_of-append (x ∷ octets) (replicate k 0) (omega arith) ∙ version (omega arith)

-- octets that are fewer than they state stay fewer where zeros fill the header up
still_less : (octets : List ℕ) → length octets < stated_packet_len octets → length octets < stated_packet_len (octets ++ replicate 6 0)
still_less octets h =
    elim (cases_lt (length octets) 6) [
      | inl few ↦ omega arith
      | inr header ↦ rw (stated_packet_len-append octets (replicate 6 0) header) h
    ]

-- some more zeros make the octets a packet
filled_to_packet : (octets : List ℕ) (n : ℕ) → (0 < length octets → version_of octets ≡ 0) → n ≡ stated_packet_len (octets ++ replicate 6 0) → length octets < n → IsPacket (octets ++ replicate (n - length octets) 0)
filled_to_packet octets n version stated h =
    let more : List ℕ = replicate (n - length octets) 0 in
    let long : length (octets ++ more) ≡ n = omega (arith, length-append octets more, length-replicate {A = ℕ} (n - length octets) 0) in
    record {
      version = filled_version octets (n - length octets) version (omega arith);
      len = long ∙ stated ∙ ap (λ xs. 7 + (packet_header xs).length) (take_filled 6 octets 0 6 (n - length octets) (omega arith) (omega arith));
    }

pub incomplete_may_become_whole : IncompleteMayBecomeWhole
incomplete_may_become_whole octets h =
    let tests = incomplete_tests (is_foreign octets) (nat_lt (length octets) (stated_packet_len octets)) (stated_packet_len octets) h in
    let less : length octets < stated_packet_len octets = ltb-true (length octets) (stated_packet_len octets) tests.1 in
    let n = stated_packet_len (octets ++ replicate 6 0) in
    let room : length octets < n = still_less octets less in (
      replicate (n - length octets) 0,
      All-replicate (λ octet. octet < 256) (n - length octets) 0 (omega arith),
      filled_to_packet octets n (foreign_false (length octets) (version_of octets) tests.0) refl room,
    )
