-- Packets that lie end to end, divided into data fields: the front of a data field, and the octets beyond it.
use Rattle.std.proofs.Common.{◌≡◌, ℕ, suc, ◌+◌, ◌-◌, ◌*◌, ◌<◌, ◌≤◌, nat_lt, if◌then◌else◌, List, [], ◌∷◌, ◌++◌, length, take, drop, Option, None, Some, sym, ◌∙◌, ap, arith, length-append, length-drop}
use Rattle.std.specs.List.{AllByRecursion, concat}
use Rattle.std.proofs.lemmas.List.{drop-drop, drop-append-le}
use Rattle.std.proofs.Math.Nat.{add-mul, one-mul, zero-mul, suc-mul}
use Rattle.std.proofs.Math.Seq.{drop-append-add}
use Rattle.sl_packet.specs.Packet.{IsPacket}
use Rattle.sl_tmflow.specs.NormalForm.{data_field_of, first_of}
use Rattle.sl_tmflow.specs.PacketStart.{packet_offsets}
use Rattle.sl_tmflow.proofs.lemmas.Form.FieldStart.{found_in, first_is, lies_elsewhere, skip_packet}

-- the first header pointer of a data field of `room` octets, where the next packet starts at this offset
abbrev pub pointer_at : ℕ → ℕ → Option ℕ
pointer_at room start = if nat_lt start room then Some start else None

module _ (room : ℕ) (packets : List (List ℕ)) where
  -- There are `count` data fields from the one with this number on. They have the octets of a packet that started
  -- earlier, if one did, and then packets.
  pub record IsCut (number : ℕ) (before : List ℕ) (todo : List (List ℕ)) (count : ℕ) : Type 0 where
    pub found : (n : ℕ) → number ≤ n → found_in room n 0 packets ≡ found_in room n (number * room + length before) todo
    pub octets : drop (number * room) (concat packets) ≡ before ++ concat todo
    pub size : length before + length (concat todo) ≡ count * room
    pub each : AllByRecursion IsPacket todo

  pub first_cut : (count : ℕ) → AllByRecursion IsPacket packets → length (concat packets) ≡ count * room → IsCut 0 [] packets count
  first_cut count each size = grind (arith, zero-mul)

  pub pointer_is : (number : ℕ) (before : List ℕ) (todo : List (List ℕ)) (count : ℕ) → 0 < room → IsCut number before todo (suc count)
      → first_of room number (packet_offsets 0 packets []) ≡ pointer_at room (length before)
  pointer_is number before todo count some cut = grind (arith, first_is, suc-mul)

  pub field_is : (number : ℕ) (before : List ℕ) (todo : List (List ℕ)) (count : ℕ) → IsCut number before todo count
      → data_field_of room number (concat packets) ≡ take room (before ++ concat todo)
  field_is number before todo count cut = ap (take room) cut.octets

  -- the place of the next data field
  next_field_begins : (number : ℕ) → number * room + room ≡ (number + 1) * room
  next_field_begins number = let e = add-mul number 1 room in let one = one-mul room in omega arith

  past_field : (number : ℕ) → drop ((number + 1) * room) (concat packets) ≡ drop room (drop (number * room) (concat packets))
  past_field number = ap (λ n. drop n (concat packets)) (sym (next_field_begins number)) ∙ sym (drop-drop room (number * room) (concat packets))

  -- past a data field that an earlier packet covers to its end
  pub past_covered : (number : ℕ) (before : List ℕ) (todo : List (List ℕ)) (count : ℕ) → room ≤ length before → IsCut number before todo (suc count)
      → IsCut (number + 1) (drop room before) todo count
  past_covered number before todo count covered cut = grind (arith, next_field_begins, length-drop, past_field, drop-append-le, suc-mul)

  -- In the data field with this number, `gap` octets are left, from the front of these packets on, and `count` data
  -- fields come later.
  pub record IsInside (number gap : ℕ) (todo : List (List ℕ)) (count : ℕ) : Type 0 where
    pub start : ℕ
    pub place : start + gap ≡ room
    pub found : (n : ℕ) → number + 1 ≤ n → found_in room n 0 packets ≡ found_in room n (number * room + start) todo
    pub octets : drop ((number + 1) * room) (concat packets) ≡ drop gap (concat todo)
    pub size : length (concat todo) ≡ gap + count * room
    pub each : AllByRecursion IsPacket todo

  -- to the first packet start of a data field
  pub at_first_start : (number : ℕ) (before : List ℕ) (todo : List (List ℕ)) (count : ℕ) → length before ≤ room → IsCut number before todo (suc count)
      → IsInside number (room - length before) todo count
  at_first_start number before todo count inside cut =
      let whole : length before + (room - length before) ≡ room = omega (arith, inside) in
      record {
        start = length before;
        place = whole;
        found = λ n after. cut.found n (omega (arith, after));
        octets = past_field number ∙ ap (drop room) cut.octets ∙ ap (λ n. drop n (before ++ concat todo)) (sym whole) ∙ drop-append-add before (concat todo) (room - length before);
        size = omega (arith, cut.size, inside, suc-mul count room);
        each = cut.each;
      }

  -- past a packet that lies whole in the data field
  pub past_whole : (number gap : ℕ) (packet : List ℕ) (todo : List (List ℕ)) (count : ℕ) → 0 < gap → length packet ≤ gap → IsInside number gap (packet ∷ todo) count
      → IsInside number (gap - length packet) todo count
  past_whole number gap packet todo count some whole is_inside =
      let place = is_inside.place in
      let parts : length packet + (gap - length packet) ≡ gap = omega (arith, whole) in
      let next : number * room + is_inside.start + length packet ≡ number * room + (is_inside.start + length packet) = omega arith in
      record {
        start = is_inside.start + length packet;
        place = omega (arith, place, parts);
        found = λ n after.
            is_inside.found n after ∙ skip_packet room n (number * room + is_inside.start) packet todo (lies_elsewhere room number n is_inside.start (omega (arith, place, some)) (omega (arith, after)))
            ∙ ap (λ k. found_in room n k todo) next;
        octets = is_inside.octets ∙ ap (λ n. drop n (packet ++ concat todo)) (sym parts) ∙ drop-append-add packet (concat todo) (gap - length packet);
        size = omega (arith, is_inside.size, length-append packet (concat todo), parts);
        each = is_inside.each.1;
      }

  -- to the next data field, where the packets fill this one
  pub past_filled : (number : ℕ) (todo : List (List ℕ)) (count : ℕ) → IsInside number 0 todo count → IsCut (number + 1) [] todo count
  past_filled number todo count is_inside = grind (arith, next_field_begins)

  -- to the next data field, where a packet goes on in it
  pub past_begun : (number gap : ℕ) (packet : List ℕ) (todo : List (List ℕ)) (count : ℕ) → 0 < gap → gap ≤ length packet → IsInside number gap (packet ∷ todo) count
      → IsCut (number + 1) (drop gap packet) todo count
  past_begun number gap packet todo count some more is_inside = grind (arith, next_field_begins, length-drop, skip_packet, lies_elsewhere, drop-append-le, length-append)
