-- The filling of octets up to a multiple of the room.
use Rattle.std.proofs.Common.{◌≡◌, ◌⊎◌, ℕ, zero, suc, ◌+◌, ◌-◌, ◌*◌, ◌/◌, ◌%◌, ◌<◌, ◌≤◌, ◌==◌, ◌||◌, nat_lt, not, if◌then◌else◌, List, [], ◌∷◌, ◌++◌, length, refl, sym, ◌∙◌, ap, arith, inl, inr, append-nil, length-append}
use Rattle.std.proofs.lemmas.Grind.{common_steps}
use Rattle.std.specs.List.{AllByRecursion, concat}
use Rattle.std.proofs.lemmas.List.Folds.{concat-append}
use Rattle.std.proofs.Math.Nat.{mod_self, mod-eq_of_lt, add-mul, one-mul, zero-mul, suc-mul, zero-mod, mul-add-mod_self_right}
use Rattle.std.proofs.lemmas.Nat.{div-add-mod', mod_below}
use Rattle.std.proofs.lemmas.Bool.Decides.{nat_tests, leb_tells, eqb_tells}
use Rattle.std.proofs.lemmas.List.Elements.{filter-append}
use Rattle.sl_packet.specs.Delivered.{IsDeliverable}
use Rattle.sl_packet.specs.IdlePacket.{idle_packet}
use Rattle.sl_packet.specs.Packet.{IsPacket}
use Rattle.sl_packet.specs.Packets.{without_idle}
use Rattle.sl_packet.proofs.IdlePacketLemmas.{idle_packet_is_a_packet, idle_packet_is_idle, length-idle_packet}
use Rattle.sl_tmflow.specs.NormalForm.{fill_of, filling, with_filling, IsLeastFill}
use Rattle.sl_fields.proofs.ListLemmas.{each-weaker, filter_all, filter_none}

-- the filling for a gap that is smaller than the room
abbrev wide_enough : ℕ → ℕ → ℕ
wide_enough room gap = if (gap == 0) || not (nat_lt gap 7) then gap else gap + room

as_it_is : (room gap : ℕ) → (gap ≡ 0) ⊎ (7 ≤ gap) → wide_enough room gap ≡ gap
as_it_is room gap allowed = grind (arith, nat_tests)

one_room_more : (room gap : ℕ) → 0 < gap → gap < 7 → wide_enough room gap ≡ gap + room
one_room_more room gap some narrow = grind (arith, nat_tests)

-- a multiple of the room that is neither 0 nor the room is two rooms at least
at_least_two : (room k : ℕ) → 0 < k → (k ≡ 1 → ⊥) → room + room ≤ k * room
at_least_two room k some more = grind (arith, add-mul, one-mul)

-- the octets after whole rooms, in a multiple of the room, are whole rooms
whole_rooms : (room q k s : ℕ) → q * room + s ≡ k * room → 0 < s → (d : ℕ) × (s ≡ d * room)
whole_rooms room zero k s rooms some = (k, omega (arith, rooms, zero-mul room))
whole_rooms room (suc q) zero s rooms some = let z = zero-mul room in absurd (omega arith)
whole_rooms room (suc q) (suc k) s rooms some = grind (arith, suc-mul, whole_rooms room q k s (omega arith) some)

pub none_left : (room count : ℕ) → count * room % room ≡ 0
none_left room count =
    let e : count * room ≡ count * room + 0 = omega arith in
    ap (λ n. n % room) e ∙ mul-add-mod_self_right count room 0 ∙ zero-mod room

at_least_one : (room count : ℕ) → 0 < count → room ≤ count * room
at_least_one room count some = grind (arith, suc-mul)

-- a multiple of the room after the octets of a part of a room has at least the rest of this room
past_one_room : (room left gap other d : ℕ) → 0 < left → gap + left ≡ room → left + other ≡ d * room → gap ≤ other
past_one_room room left gap other d some whole rooms = grind (arith, zero-mul, at_least_one)

past_two_rooms : (room left gap other d : ℕ) → 0 < left → 0 < gap → gap < 7 → gap + left ≡ room → (other ≡ 0) ⊎ (7 ≤ other) → left + other ≡ d * room → gap + room ≤ other
past_two_rooms room left gap other d some there narrow whole (inl none) rooms =
    let o = past_one_room room left gap other d some whole rooms in absurd (omega arith)
past_two_rooms room left gap other zero some there narrow whole (inr wide) rooms = let z = zero-mul room in absurd (omega arith)
past_two_rooms room left gap other (suc zero) some there narrow whole (inr wide) rooms = let o = one-mul room in absurd (omega arith)
past_two_rooms room left gap other (suc (suc d)) some there narrow whole (inr wide) rooms =
    let o = at_least_two room (suc (suc d)) (omega arith) (λ h. absurd (omega arith)) in omega arith

-- the least filling, where the last room is partly filled
least_gap : (room len gap : ℕ) → 7 ≤ room → 0 < len % room → gap + len % room ≡ room → gap < room → (gap ≡ 0 → ⊥) → IsLeastFill room len (wide_enough room gap)
least_gap room len gap roomy some whole inside there =
    let len_is : len / room * room + len % room ≡ len = div-add-mod' len room in
    let one = suc-mul (len / room) room in
    let two = suc-mul (suc (len / room)) room in
    let at_least : (other : ℕ) → (len + other) % room ≡ 0 → (d : ℕ) × (len % room + other ≡ d * room) =
    λ other e.
    let k = (len + other) / room in
    let all : (len + other) / room * room + (len + other) % room ≡ len + other = div-add-mod' (len + other) room in
    whole_rooms room (len / room) k (len % room + other) (omega arith) (omega arith) in
    elim (leb_tells (suc gap) 7) [
      | inl (test, low) ↦ let narrow : gap < 7 = omega (arith, low) in
          rw (one_room_more room gap (omega (arith, there)) narrow) record {
            allowed = inr (omega arith);
            fills = let e : len + (gap + room) ≡ suc (suc (len / room)) * room = omega arith in ap (λ n. n % room) e ∙ none_left room (suc (suc (len / room)));
            least = λ other allowed e. let d = at_least other e in past_two_rooms room (len % room) gap other d.0 some (omega (arith, there)) narrow whole allowed d.1;
          }
      | inr (test, high) ↦ let wide : 7 ≤ gap = omega (arith, high) in
          rw (as_it_is room gap (inr wide)) record {
            allowed = inr wide;
            fills = let e : len + gap ≡ suc (len / room) * room = omega arith in ap (λ n. n % room) e ∙ none_left room (suc (len / room));
            least = λ other allowed e. let d = at_least other e in past_one_room room (len % room) gap other d.0 some whole d.1;
          }
    ]

pub fill_is_least : (room len : ℕ) → 7 ≤ room → IsLeastFill room len (fill_of room len)
fill_is_least room len some =
    let inside : len % room < room = mod_below len room (omega arith) in
    elim (eqb_tells (len % room) 0) [
      | inl (test, none) ↦
          let all : room - 0 ≡ room = omega arith in
          let gap : (room - len % room) % room ≡ 0 = ap (λ n. (room - n) % room) none ∙ ap (λ n. n % room) all ∙ mod_self room in
          rw (gap) record {
            allowed = inl refl;
            fills = let e : len + 0 ≡ len = omega arith in ap (λ n. n % room) e ∙ none;
            least = λ other allowed e. omega arith;
          }
      | inr (test, left) ↦
          let some_left : 0 < len % room = omega (arith, left) in
          let gap : (room - len % room) % room ≡ room - len % room = mod-eq_of_lt (omega arith) in
          rw (gap) (least_gap room len (room - len % room) some some_left (omega arith) (omega arith) (λ h. omega arith))
    ]

-- ---- packets, filled up

-- where there are no octets, there is no filling
no_fill : (room : ℕ) → fill_of room 0 ≡ 0
no_fill room =
    let all : room - 0 ≡ room = omega arith in
    let gap : (room - 0 % room) % room ≡ 0 = ap (λ n. (room - n) % room) (zero-mod room) ∙ ap (λ n. n % room) all ∙ mod_self room in
    as_it_is room ((room - 0 % room) % room) (inl gap) ∙ gap

pub no_filling : (room : ℕ) → filling room 0 ≡ []
no_filling room = ap (λ n. if◌then◌else◌ {A = List (List ℕ)} (n == 0) [] (idle_packet n ∷ [])) (no_fill room)

pub fill_inside : (room len : ℕ) → 7 ≤ room → fill_of room len ≤ room + 6
fill_inside room len some = grind (arith, mod_below, leb_tells, eqb_tells, as_it_is, one_room_more)

some_fill : (room len : ℕ) → 7 ≤ room → (fill_of room len ≡ 0 → ⊥) → 7 ≤ fill_of room len
some_fill room len some there = grind (arith, fill_is_least)

-- the filling is an idle packet of the needed length
pub filling_is : (room len : ℕ) → 7 ≤ room → room ≤ 65536 → AllByRecursion IsPacket (filling room len) × (length (concat (filling room len)) ≡ fill_of room len)
filling_is room len some short = grind (arith, eqb_tells, some_fill, fill_inside, idle_packet_is_a_packet, append-nil, length-idle_packet)

pub filled_octets : (room : ℕ) (packets : List (List ℕ)) → concat packets ++ concat (filling room (length (concat packets))) ≡ concat (with_filling room packets)
filled_octets room packets = sym (concat-append packets (filling room (length (concat packets))))

pub filled_whole : (room : ℕ) (packets : List (List ℕ)) → 7 ≤ room → room ≤ 65536 → length (concat (with_filling room packets)) % room ≡ 0
filled_whole room packets some short =
    let len = length (concat packets) in
    ap (λ n. n % room) (ap length (sym (filled_octets room packets)) ∙ length-append (concat packets) (concat (filling room len)) ∙ ap (λ n. len + n) (filling_is room len some short).1)
    ∙ (fill_is_least room len some).fills

-- packets that an idle packet filled up are the same without it
pub filled_without_idle : (room : ℕ) (packets : List (List ℕ)) → 7 ≤ room → room ≤ 65536 → AllByRecursion IsDeliverable packets → without_idle (with_filling room packets) ≡ packets
filled_without_idle room packets some short each = grind (arith, common_steps, filter-append, filter_all, each-weaker, filter_none, append-nil, eqb_tells, idle_packet_is_idle, some_fill, fill_inside)
