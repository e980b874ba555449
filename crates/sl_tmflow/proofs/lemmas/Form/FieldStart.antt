-- The packet starts in the data fields that packets are divided into: the pointer to a data field of a normal form is
-- the least one.
use Rattle.std.proofs.Common.{◌≡◌, ℕ, suc, ◌+◌, ◌-◌, ◌*◌, ◌/◌, ◌<◌, ◌≤◌, ◌==◌, nat_lt, true, false, List, [], ◌∷◌, length, Option, Some, None, refl, arith, inl, inr, if◌then◌else◌, Bool}
use Rattle.std.specs.List.{concat, find}
use Rattle.std.proofs.lemmas.Bool.Decides.{leb_tells, nat_tests}
use Rattle.std.proofs.lemmas.Bool.{eq-eqb, ne_eqb, eqb-true}
use Rattle.std.proofs.lemmas.Nat.{div-mul-add, div-add-mod', mod_below}
use Rattle.std.proofs.Math.Nat.{suc-mul, le-div_iff_mul-le}
use Rattle.sl_tmflow.specs.NormalForm.{lies_in, first_of, LiesIn, IsLeastStart, EachPointerIsLeast}
use Rattle.sl_tmflow.specs.PacketStart.{packet_offsets}
use Rattle.sl_tmflow.specs.Among.{IsAmong}

-- the first packet start that lies in the data field with this number
abbrev pub found_in : ℕ → ℕ → ℕ → List (List ℕ) → Option ℕ
found_in room number offset packets = find (lies_in room number) (packet_offsets offset packets [])

-- an offset lies in the data field of its own number alone
pub lies_here : (room number start : ℕ) → start < room → lies_in room number (number * room + start) ≡ true
lies_here room number start inside = eq-eqb ((number * room + start) / room) number (div-mul-add number room start inside)

pub lies_elsewhere : (room number other start : ℕ) → start < room → number < other → lies_in room other (number * room + start) ≡ false
lies_elsewhere room number other start inside less = grind (arith, div-mul-add, ne_eqb)

-- an offset beyond a data field doesn't lie in it
pub no_later : (room number offset : ℕ) (packets : List (List ℕ)) → 0 < room → number * room + room ≤ offset → found_in room number offset packets ≡ None
no_later room number offset [] some beyond = refl
no_later room number offset (packet ∷ packets) some beyond =
    let rooms = suc-mul number room in
    let less : suc number ≤ offset / room = (le-div_iff_mul-le some).1 (omega arith) in
    let test : (offset / room == number) ≡ false = ne_eqb (offset / room) number (λ e. absurd (omega arith)) in
    rw (test) (no_later room number (offset + length packet) packets some (omega arith))

pub skip_packet : (room number offset : ℕ) (packet : List ℕ) (packets : List (List ℕ)) → lies_in room number offset ≡ false
    → found_in room number offset (packet ∷ packets) ≡ found_in room number (offset + length packet) packets
skip_packet room number offset packet packets test = rw (test) refl

-- the first packet start of a data field, where the next packet starts at this offset from its front
pub first_is : (room number start : ℕ) (packets todo : List (List ℕ)) → 0 < room → room ≤ start + length (concat todo) → found_in room number 0 packets ≡ found_in room number (number * room + start) todo
    → first_of room number (packet_offsets 0 packets []) ≡ (if nat_lt start room then Some start else None)
first_is room number start packets [] some more found =
    let test : nat_lt start room ≡ false = grind (arith, nat_tests) in
    rw (test, found) refl
first_is room number start packets (packet ∷ todo) some more found =
    elim (leb_tells (suc start) room) [
      | inl (test, inside) ↦
          let back : number * room + start - number * room ≡ start = omega arith in
          rw (test, found, lies_here room number start (omega (arith, inside)), back) refl
      | inr (test, beyond) ↦ rw (test, found, no_later room number (number * room + start) (packet ∷ todo) some (omega (arith, beyond))) refl
    ]

-- ---- the least packet start

tells : (room number offset : ℕ) → LiesIn room number offset → lies_in room number offset ≡ true
tells room number offset lies = grind (arith, lies_here)

-- packets that lie end to end have no start before the first one
none_before : (offset : ℕ) (packets : List (List ℕ)) (start : ℕ) → IsAmong start (packet_offsets offset packets []) → offset ≤ start
none_before offset [] start among = absurd among
none_before offset (packet ∷ packets) start (inl same) = omega arith
none_before offset (packet ∷ packets) start (inr among) = omega (arith, none_before (offset + length packet) packets start among)

-- an offset in front that doesn't lie in the data field changes nothing
one_start_more : (room number offset : ℕ) (offsets : List ℕ) (first : Option ℕ) → (LiesIn room number offset → ⊥)
    → IsLeastStart room number offsets first → IsLeastStart room number (offset ∷ offsets) first
one_start_more room number offset offsets first outside least = search arith

-- one more packet in front of packets that lie end to end
with_first : (room number offset : ℕ) (packet : List ℕ) (packets : List (List ℕ)) → 0 < room → (b : Bool) → lies_in room number offset ≡ b
    → IsLeastStart room number (packet_offsets (offset + length packet) packets []) (first_of room number (packet_offsets (offset + length packet) packets []))
    → IsLeastStart room number (packet_offsets offset (packet ∷ packets) []) (first_of room number (packet_offsets offset (packet ∷ packets) []))
with_first room number offset packet packets some b test later = grind (arith, none_before, one_start_more, tells, eqb-true, div-add-mod', mod_below)

least_from : (room number offset : ℕ) (packets : List (List ℕ)) → 0 < room
    → IsLeastStart room number (packet_offsets offset packets []) (first_of room number (packet_offsets offset packets []))
least_from room number offset [] some = λ start among lies. absurd among
least_from room number offset (packet ∷ packets) some = grind (arith, with_first, least_from room number (offset + length packet) packets some)

pub each_pointer_is_least : EachPointerIsLeast
each_pointer_is_least room number packets some = least_from room number 0 packets some
