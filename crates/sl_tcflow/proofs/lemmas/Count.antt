-- What is counted of a service data unit that comes in parts.
use Rattle.std.proofs.Common.{◌≡◌, ℕ, ◌+◌, ◌-◌, ◌*◌, ◌≤◌, ◌==◌, ◌&&◌, nat_lt, not, if◌then◌else◌, cond, Bool, true, false, List, [], ◌∷◌, ◌++◌, length, take, drop, replicate, inl, inr, refl, sym, ◌∙◌, ap, arith, length-append, append-nil, append_assoc}
use Rattle.std.specs.List.{AllByRecursion, concat}
use Rattle.std.proofs.lemmas.Bool.{cases_lt, le-ltb}
use Rattle.std.proofs.lemmas.List.{drop-drop, drop_at, length-replicate, length-take-le, take-append-drop, take-append-le, take_all, take_at}
use Rattle.sl_fields.specs.Field.{field}
use Rattle.sl_packet.specs.Front.{WholePacket, front_of}
use Rattle.sl_packet.specs.Outline.{HasOutline}
use Rattle.sl_packet.specs.Packet.{IsPacket, apid_of, is_idle_packet}
use Rattle.sl_packet.specs.Packets.{only_idle, packets_of, rest_of, without_idle}
use Rattle.sl_packet.specs.Partial.{WholeIsWhole, need_of}
use Rattle.sl_packet.specs.declared.outline.Outline.{Outline}
use Rattle.sl_packet.specs.declared.partial.Need.{Need}
use Rattle.sl_packet.specs.declared.partial.Need.TheVariants.{Whole}
use Rattle.sl_packet.proofs.CountLemmas.{split_count}
use Rattle.sl_packet.proofs.FrontLemmas.{whole_front, whole_is_a_packet}
use Rattle.sl_packet.proofs.PacketLemmas.{packet_least}
use Rattle.sl_packet.proofs.PacketsLemmas.{each_has_packets, packets_of-concat, packets_of-none, packets_of-whole, rest_of-concat, rest_of-none, rest_of-whole}
use Rattle.sl_packet.proofs.WithoutIdleLemmas.{only_idle-append, without_idle-append}
use Rattle.sl_tcflow.specs.UnitCount.{IsCountOf}
use Rattle.sl_tcflow.specs.declared.unit_count.UnitCount.{UnitCount}

-- ---- how many packets there can be

seven_each : (packets : List (List ℕ)) → AllByRecursion IsPacket packets → 7 * length packets ≤ length (concat packets)
seven_each [] all = omega arith
seven_each (packet ∷ packets) all = omega (arith, packet_least packet all.0, seven_each packets all.1, length-append packet (concat packets))

-- each packet has seven octets or more
pub counts_within : (octets : List ℕ)
    → 7 * (length (without_idle (packets_of octets)) + length (only_idle (packets_of octets))) + length (rest_of octets) ≤ length octets
counts_within octets =
    let has = each_has_packets octets in
    omega (arith, split_count (packets_of octets), seven_each (packets_of octets) has.each, ap length has.end_to_end, length-append (concat (packets_of octets)) (rest_of octets))

-- ---- octets in two parts

-- the packets of the first part, and then those of what it leaves with the second part
packets_of-parts : (octets part : List ℕ) → packets_of (octets ++ part) ≡ packets_of octets ++ packets_of (rest_of octets ++ part)
packets_of-parts octets part =
    let has = each_has_packets octets in
    ap (λ l. packets_of (l ++ part)) has.end_to_end ∙ ap packets_of (append_assoc (concat (packets_of octets)) (rest_of octets) part)
    ∙ packets_of-concat (packets_of octets) (rest_of octets ++ part) has.each

rest_of-parts : (octets part : List ℕ) → rest_of (octets ++ part) ≡ rest_of (rest_of octets ++ part)
rest_of-parts octets part =
    let has = each_has_packets octets in
    ap (λ l. rest_of (l ++ part)) has.end_to_end ∙ ap rest_of (append_assoc (concat (packets_of octets)) (rest_of octets) part)
    ∙ rest_of-concat (packets_of octets) (rest_of octets ++ part) has.each

-- what the first part leaves is shorter than a packet that ends in the second
rest_shorter : (octets part : List ℕ) (len : ℕ) → front_of (rest_of octets ++ part) ≡ WholePacket len → length (rest_of octets) ≤ len
rest_shorter octets part len whole =
    let rest = rest_of octets in
    elim (cases_lt len (length rest)) [
      | inl longer ↦
          let same : take len (rest ++ part) ≡ take len rest = take-append-le len rest part (omega arith) in
          let packet : IsPacket (take len rest) = rw same at ((whole_is_a_packet (rest ++ part) len whole).0) in
          absurd ((each_has_packets octets).no_more (take len rest) (drop len rest) packet (sym (take-append-drop len rest)))
      | inr fits ↦ fits
    ]

-- the octets after this packet, in the second part
after_packet : (rest part : List ℕ) (len : ℕ) → length rest ≤ len → drop len (rest ++ part) ≡ drop (len - length rest) part
after_packet rest part len fits =
    let past : len ≡ length rest + (len - length rest) = omega arith in
    ap (λ n. drop n (rest ++ part)) past ∙ sym (drop-drop (len - length rest) (length rest) (rest ++ part))
    ∙ ap (drop (len - length rest)) (drop_at rest part (length rest) refl)

-- ---- idle packets

idle_tests : (n m a : ℕ) → 2 ≤ n → 2 ≤ m → (nat_lt 1 n && (a == 2047)) ≡ (nat_lt 1 m && (a == 2047))
idle_tests n m a some more = grind (arith, le-ltb)

-- a packet begins like the octets that it lies at the front of
idle_front : (packet more : List ℕ) → 2 ≤ length packet → is_idle_packet (packet ++ more) ≡ is_idle_packet packet
idle_front packet more long =
    let same : apid_of (packet ++ more) ≡ apid_of packet = ap (λ l. field 2 5 11 l) (take-append-le 2 packet more long) in
    rw same (idle_tests (length (packet ++ more)) (length packet) (apid_of packet) (omega (arith, length-append packet more)) long)

idle_whole : (octets : List ℕ) (len : ℕ) → front_of octets ≡ WholePacket len → is_idle_packet (take len octets) ≡ is_idle_packet octets
idle_whole octets len whole =
    let w = whole_front octets len whole in
    let long : length (take len octets) ≡ len = length-take-le len octets w.inside in
    sym (idle_front (take len octets) (drop len octets) (omega (arith, w.least, long))) ∙ ap is_idle_packet (take-append-drop len octets)

-- ---- the outline of the octets that are left

-- some octets have an outline
outlined : (outline : Outline) → length outline.header ≡ 6 → (octets : List ℕ) × HasOutline octets outline
outlined outline six =
    let n = outline.octets in
    let header = outline.header in
    elim (cases_lt 6 n) [
      | inl more ↦
          let after : List ℕ = replicate (n - 6) 0 in
          let long : length (header ++ after) ≡ n = omega (arith, length-append header after, length-replicate {A = ℕ} (n - 6) 0) in
          (header ++ after, record { count = sym long; first = take_all (length (header ++ after)) header (omega arith) ∙ sym (take_at header after 6 six) })
      | inr few ↦
          let long : length (take n header) ≡ n = length-take-le n header (omega arith) in
          (take n header, record { count = sym long; first = ap (λ k. take k header) long ∙ sym (take_all 6 (take n header) (omega arith)) })
    ]

-- a packet has seven octets or more, and lies within the octets
pub packet_within : (outline : Outline) (need : Need) (len : ℕ) → length outline.header ≡ 6 → WholeIsWhole
    → ((octets : List ℕ) → HasOutline octets outline → need ≡ need_of octets) → need ≡ Whole len → (7 ≤ len) × (len ≤ outline.octets)
packet_within outline need len six tells is whole =
    let (octets, has) = outlined outline six in
    let w = whole_front octets len ((tells octets len).0 (sym (is octets has) ∙ whole)) in
    (w.least, omega (arith, w.inside, has.count))

-- ---- the counts

-- the packet that is incomplete stays so
pub none_counted : (octets part : List ℕ) (count new : UnitCount) → IsCountOf octets count → ((len : ℕ) → front_of (rest_of octets ++ part) ≡ WholePacket len → ⊥)
    → new.octets ≡ count.octets + length part → new.packets ≡ count.packets → new.idle ≡ count.idle → HasOutline (rest_of octets ++ part) new.rest
    → IsCountOf (octets ++ part) new
none_counted octets part count new is none size packets idle rest =
    let same : packets_of (octets ++ part) ≡ packets_of octets = packets_of-parts octets part ∙ ap (λ l. packets_of octets ++ l) (packets_of-none (rest_of octets ++ part) none) ∙ append-nil (packets_of octets) in
    let left : rest_of (octets ++ part) ≡ rest_of octets ++ part = rest_of-parts octets part ∙ rest_of-none (rest_of octets ++ part) none in
    record {
      size = omega (arith, size, is.size, length-append octets part);
      packets = packets ∙ is.packets ∙ ap (λ l. length (without_idle l)) (sym same);
      idle = idle ∙ is.idle ∙ ap (λ l. length (only_idle l)) (sym same);
      rest = rw left rest;
    }

one_due : (idle : Bool) (packet : List ℕ) (dues : List (List ℕ)) → length (cond (not idle) (packet ∷ dues) dues) ≡ (if idle then 0 else 1) + length dues
one_due true packet dues = omega arith
one_due false packet dues = omega arith

one_idle : (idle : Bool) (packet : List ℕ) (idles : List (List ℕ)) → length (cond idle (packet ∷ idles) idles) ≡ (if idle then 1 else 0) + length idles
one_idle true packet idles = omega arith
one_idle false packet idles = omega arith

due_between : (before later : List (List ℕ)) (packet : List ℕ)
    → length (without_idle (before ++ packet ∷ later)) ≡ length (without_idle before) + (if is_idle_packet packet then 0 else 1) + length (without_idle later)
due_between before later packet =
    omega (arith, ap length (without_idle-append before (packet ∷ later)), length-append (without_idle before) (without_idle (packet ∷ later)), one_due (is_idle_packet packet) packet (without_idle later))

idle_between : (before later : List (List ℕ)) (packet : List ℕ)
    → length (only_idle (before ++ packet ∷ later)) ≡ length (only_idle before) + (if is_idle_packet packet then 1 else 0) + length (only_idle later)
idle_between before later packet =
    omega (arith, ap length (only_idle-append before (packet ∷ later)), length-append (only_idle before) (only_idle (packet ∷ later)), one_idle (is_idle_packet packet) packet (only_idle later))

-- the packet that was incomplete ends in the part
pub packet_counted : (octets part : List ℕ) (count later new : UnitCount) (len : ℕ) (is_idle : Bool) → IsCountOf octets count
    → front_of (rest_of octets ++ part) ≡ WholePacket len → is_idle ≡ is_idle_packet (rest_of octets ++ part)
    → IsCountOf (drop (len - count.rest.octets) part) later
    → new.octets ≡ count.octets + length part
    → new.packets ≡ count.packets + (if is_idle then 0 else 1) + later.packets
    → new.idle ≡ count.idle + (if is_idle then 1 else 0) + later.idle → new.rest ≡ later.rest → IsCountOf (octets ++ part) new
packet_counted octets part count later new len is_idle is whole idle_is after size packets idle rest =
    let before = packets_of octets in
    let l = rest_of octets ++ part in
    let packet = take len l in
    let more = drop (len - count.rest.octets) part in
    let same : drop len l ≡ more = after_packet (rest_of octets) part len (rest_shorter octets part len whole) ∙ ap (λ n. drop (len - n) part) (sym is.rest.count) in
    let all : packets_of (octets ++ part) ≡ before ++ packet ∷ packets_of more =
    packets_of-parts octets part ∙ ap (λ ps. before ++ ps) (packets_of-whole l len whole ∙ ap (λ o. packet ∷ packets_of o) same) in
    let left : rest_of (octets ++ part) ≡ rest_of more = rest_of-parts octets part ∙ rest_of-whole l len whole ∙ ap rest_of same in
    let one : is_idle ≡ is_idle_packet packet = idle_is ∙ sym (idle_whole l len whole) in
    let due = ap (λ b. count.packets + (if b then 0 else 1) + later.packets) one in
    let idles = ap (λ b. count.idle + (if b then 1 else 0) + later.idle) one in
    record {
      size = omega (arith, size, is.size, length-append octets part);
      packets = omega (arith, packets, due, is.packets, after.packets, due_between before (packets_of more) packet, ap (λ ps. length (without_idle ps)) all);
      idle = omega (arith, idle, idles, is.idle, after.idle, idle_between before (packets_of more) packet, ap (λ ps. length (only_idle ps)) all);
      rest = rw (left, rest) after.rest;
    }
