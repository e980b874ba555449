-- The frames that packets are divided into deliver these packets, in order, and no others. A packet that goes on from
-- data field to data field is put together again.
use Rattle.std.proofs.Common.{◌≡◌, ℕ, zero, suc, ◌+◌, ◌-◌, ◌*◌, ◌%◌, ◌<◌, ◌≤◌, true, if◌then◌else◌, List, [], ◌∷◌, ◌++◌, length, take, drop, map, None, Some, inl, inr, refl, sym, ◌∙◌, ap, ap₂, subst, arith, length-append, length-drop, length-take-le, append_assoc, append-nil, eq-eqb, lt-ltb, le-ltb}
use Rattle.std.specs.List.{AllByRecursion, concat, range_with_len}
use Rattle.std.proofs.lemmas.Bool.Decides.{leb_tells}
use Rattle.std.proofs.lemmas.List.{map-append, take-append-drop, take-append-le}
use Rattle.std.proofs.Math.Nat.{zero-mul, suc-mul}
use Rattle.std.proofs.Math.Seq.{take-append-add, drop-append_seam, take-nil}
use Rattle.sl_packet.specs.Front.{Incomplete, front_of}
use Rattle.sl_packet.specs.Packet.{IsPacket}
use Rattle.sl_packet.specs.Packets.{packets_of, rest_of}
use Rattle.sl_packet.proofs.PacketLemmas.{packet_least}
use Rattle.sl_packet.proofs.PacketsLemmas.{packets_of-packet, rest_of-packet, packets_of-none, rest_of-none}
use Rattle.sl_tmframe.specs.PacketFrame.{packet_view}
use Rattle.sl_tmframe.specs.TmFrame.{TmView, Packets}
use Rattle.sl_tmflow.specs.VirtualChannel.{follows, packet_data}
use Rattle.sl_tmflow.specs.Delivery.{agreeing_pointer, outcome_of_continuation, outcome_after, outcome_of_front, outcome_of, frame_deliveries, deliveries_from, deliveries_of, packets_delivered}
use Rattle.sl_tmflow.specs.NormalForm.{data_field_of, first_of}
use Rattle.sl_tmflow.specs.PacketStart.{packet_offsets}
use Rattle.sl_tmflow.proofs.lemmas.Delivery.Start.{at_rest}
use Rattle.sl_tmflow.proofs.lemmas.Form.Cut.{pointer_at, IsCut, IsInside, first_cut, pointer_is, field_is, past_covered, at_first_start, past_whole, past_filled, past_begun}
use Rattle.sl_tmflow.proofs.lemmas.Delivery.Listed.{field_deliveries}
use Rattle.sl_tmflow.proofs.lemmas.Delivery.Push.{completed_packet, from_pointer}
use Rattle.sl_tmflow.proofs.lemmas.Delivery.Step.{EndsIn, GoesOnPast, ends_step, continues_step, incomplete_before_end}

-- ---- a packet that goes on

-- a packet with `before` octets so far, which ends in a data field or at its end, agrees with the next packet start
pointer_agrees : (room len before more : ℕ) (field : List ℕ) → length field ≡ room → len ≡ before + more → more ≤ room
    → pointer_at room more ≡ agreeing_pointer len before field
pointer_agrees room len before more field whole long ends = grind (arith, leb_tells, lt-ltb, le-ltb)

-- virtual channel frame counts are the numbers of the frames, modulo 256
pub next_count : (number : ℕ) → follows (number % 256) ((number + 1) % 256) ≡ true
next_count number = let next : (number + 1) % 256 ≡ (number % 256 + 1) % 256 = omega arith in eq-eqb ((number + 1) % 256) ((number % 256 + 1) % 256) next

-- ---- the packets that a frame's starts deliver

-- the packets that octets of a frame deliver, from a packet start on
abbrev pub delivered_in : TmView → List TmView → List ℕ → List (List ℕ)
delivered_in view later octets = packets_of octets ++ at_rest (λ l. completed_packet (outcome_of view l later)) (rest_of octets)

in_packet : (view : TmView) (later : List TmView) (packet octets : List ℕ) → IsPacket packet → delivered_in view later (packet ++ octets) ≡ packet ∷ delivered_in view later octets
in_packet view later packet octets is_packet = grind (arith, packets_of-packet, rest_of-packet)

in_begun : (view : TmView) (later : List TmView) (octets : List ℕ) → 0 < length octets → front_of octets ≡ Incomplete
    → delivered_in view later octets ≡ completed_packet (outcome_of_front Incomplete view octets later)
in_begun view later octets some incomplete = grind (arith, packets_of-none, rest_of-none)

-- a list of packets without octets is empty
no_octets : (packets : List (List ℕ)) → AllByRecursion IsPacket packets → length (concat packets) ≡ 0 → packets ≡ []
no_octets [] each none = refl
no_octets (packet ∷ packets) each none = absurd (let least = packet_least packet each.0 in let long = length-append packet (concat packets) in omega arith)

-- ---- data field by data field

module _ (room vc mc : ℕ) (packets : List (List ℕ)) where
  -- the view of the frame with this number, counted from 0
  abbrev pub view_at : ℕ → TmView
  view_at number = packet_view vc ((mc + number) % 256) (number % 256) (first_of room number (packet_offsets 0 packets [])) (data_field_of room number (concat packets))

  abbrev pub views_from : ℕ → ℕ → List TmView
  views_from number count = map view_at (range_with_len number count)

  -- a frame in which a packet ends
  ends_here : (number : ℕ) (so_far more : List ℕ) (todo : List (List ℕ)) (count : ℕ) → 0 < room → IsPacket (so_far ++ more) → length more ≤ room
      → IsCut room packets number more todo (suc count) → EndsIn so_far (view_at number).field (so_far ++ more)
  ends_here number so_far more todo count some packet_is ends cut =
      let whole : length more + (room - length more) ≡ room = omega (arith, ends) in
      let all = data_field_of room number (concat packets) in
      let rest = take (room - length more) (concat todo) in
      let all_is : all ≡ more ++ rest = field_is room packets number more todo (suc count) cut ∙ ap (λ n. take n (more ++ concat todo)) (sym whole) ∙ take-append-add more (concat todo) (room - length more) in
      let long : length rest ≡ room - length more = length-take-le (room - length more) (concat todo) (omega (arith, cut.size, suc-mul count room, ends)) in
      let full : length all ≡ room = omega (arith, ap length all_is, length-append more rest, long, ends) in
      record {
        first = first_of room number (packet_offsets 0 packets []);
        carried = all;
        is_packets = refl;
        is_packet = packet_is;
        ends = (rest, append_assoc so_far more rest ∙ ap (λ l. so_far ++ l) (sym all_is));
        agrees =
            pointer_is room packets number more todo count some cut
            ∙ pointer_agrees room (length (so_far ++ more)) (length so_far) (length more) all full (length-append so_far more) ends;
      }

  -- a frame that a packet covers
  field_covered : (number : ℕ) (more : List ℕ) (todo : List (List ℕ)) (count : ℕ) → room ≤ length more → IsCut room packets number more todo count
      → data_field_of room number (concat packets) ≡ take room more
  field_covered number more todo count covered cut = field_is room packets number more todo count cut ∙ take-append-le room more (concat todo) covered

  goes_on_here : (number : ℕ) (so_far more : List ℕ) (todo : List (List ℕ)) (count : ℕ) → 0 < room → IsPacket (so_far ++ more) → room < length more
      → IsCut room packets number more todo (suc count) → GoesOnPast so_far (view_at number).field
  goes_on_here number so_far more todo count some is_packet longer cut =
      let all = data_field_of room number (concat packets) in
      let all_is : all ≡ take room more = field_covered number more todo (suc count) (omega (arith, longer)) cut in
      let full : length (take room more) ≡ room = length-take-le room more (omega (arith, longer)) in
      let none : pointer_at room (length more) ≡ None = ap (λ b. if b then Some (length more) else None) (le-ltb (length more) room (omega (arith, longer))) in
      let parts : (so_far ++ all) ++ drop room more ≡ (so_far ++ more) ++ [] =
      append_assoc so_far all (drop room more) ∙ ap (λ l. so_far ++ (l ++ drop room more)) all_is ∙ ap (λ l. so_far ++ l) (take-append-drop room more)
      ∙ sym (append-nil (so_far ++ more)) in
      record {
        is_read = λ same. cc;
        no_start = λ first carried same. let is_packet : first ≡ first_of room number (packet_offsets 0 packets []) = cc in is_packet ∙ pointer_is room packets number more todo count some cut ∙ none;
        incomplete =
            incomplete_before_end (so_far ++ all) (drop room more) (so_far ++ more) [] is_packet parts
            (omega (arith, length-append so_far all, length-append so_far more, ap length all_is, full, longer));
      }

  -- a packet is delivered of which these octets came, and the others come in the data fields from this number on
  pub put_together : (count number passed : ℕ) (view : TmView) (so_far more : List ℕ) (todo : List (List ℕ)) → 0 < room → follows view.vc_count (number % 256) ≡ true
      → IsPacket (so_far ++ more) → 0 < length more → IsCut room packets number more todo count
      → completed_packet (outcome_after passed view so_far (views_from number count)) ≡ (so_far ++ more) ∷ []
  put_together zero number passed view so_far more todo some next is_packet there cut = absurd (let size = cut.size in let none = zero-mul room in omega arith)
  put_together (suc count) number passed view so_far more todo some next is_packet there cut =
      let here = view_at number in
      let later = outcome_after (passed + 1) here (so_far ++ packet_data here) (views_from (number + 1) count) in
      elim (leb_tells (suc room) (length more)) [
        | inl (test, longer) ↦
            let long : room < length more = omega (arith, longer) in
            let covered : room ≤ length more = omega (arith, longer) in
            let all_is = field_covered number more todo (suc count) covered cut in
            let parts : (so_far ++ take room more) ++ drop room more ≡ so_far ++ more =
            append_assoc so_far (take room more) (drop room more) ∙ ap (λ l. so_far ++ l) (take-append-drop room more) in
            let rest : 0 < length (drop room more) = omega (arith, length-drop room more, long) in
            ap (λ c. completed_packet (outcome_of_continuation c (passed + 1) later)) (continues_step view so_far here next (goes_on_here number so_far more todo count some is_packet long cut))
            ∙ ap (λ l. completed_packet (outcome_after (passed + 1) here (so_far ++ l) (views_from (number + 1) count))) all_is
            ∙ put_together count (number + 1) (passed + 1) here (so_far ++ take room more) (drop room more) todo some (next_count number)
            (subst IsPacket (sym parts) is_packet) rest (past_covered room packets number more todo count covered cut)
            ∙ ap (λ l. l ∷ []) parts
        | inr (test, short) ↦
            ap (λ c. completed_packet (outcome_of_continuation c (passed + 1) later))
            (ends_step view so_far here (so_far ++ more) next (ends_here number so_far more todo count some is_packet (omega (arith, short)) cut))
      ]

  -- the packets that begin in later data fields are delivered in order
  abbrev AreDeliveredLater : ℕ → ℕ → List (List ℕ) → Type 0
  AreDeliveredLater number count later = (before : List ℕ) (todo : List (List ℕ)) → IsCut room packets number before todo count → later ≡ todo

  -- the packets that begin in the rest of a data field, and then those of the later ones, are delivered in order
  delivered_inside : (todo : List (List ℕ)) (number gap count : ℕ) (later : List (List ℕ)) → 0 < room → IsInside room packets number gap todo count
      → AreDeliveredLater (number + 1) count later
      → delivered_in (view_at number) (views_from (number + 1) count) (take gap (concat todo)) ++ later ≡ todo
  delivered_inside [] number gap count later some is_inside each =
      let none : gap ≡ 0 = let size = is_inside.size in omega arith in
      let filled = past_filled room packets number [] count (subst (λ g. IsInside room packets number g [] count) none is_inside) in
      ap (λ l. delivered_in (view_at number) (views_from (number + 1) count) l ++ later) (take-nil gap) ∙ each [] [] filled
  delivered_inside (packet ∷ todo) number zero count later some is_inside each = each [] (packet ∷ todo) (past_filled room packets number (packet ∷ todo) count is_inside)
  delivered_inside (packet ∷ todo) number (suc gap) count later some is_inside each =
      let all = suc gap in
      let here = view_at number in
      let next = views_from (number + 1) count in
      elim (leb_tells (length packet) all) [
        | inl (test, whole) ↦
            let left = all - length packet in
            let parts : length packet + left ≡ all = omega (arith, whole) in
            let first : take all (packet ++ concat todo) ≡ packet ++ take left (concat todo) =
            ap (λ n. take n (packet ++ concat todo)) (sym parts) ∙ take-append-add packet (concat todo) left in
            ap (λ l. delivered_in here next l ++ later) first
            ∙ ap (λ l. l ++ later) (in_packet here next packet (take left (concat todo)) is_inside.each.0)
            ∙ ap (λ l. packet ∷ l) (delivered_inside todo number left count later some (past_whole room packets number all packet todo count (omega arith) whole is_inside) each)
        | inr (test, longer) ↦
            let inside : all ≤ length packet = omega (arith, longer) in
            let octets = take all packet in
            let more = drop all packet in
            let cut = past_begun room packets number all packet todo count (omega arith) inside is_inside in
            let split : octets ++ more ≡ packet = take-append-drop all packet in
            let long : length octets ≡ all = length-take-le all packet inside in
            let p : IsPacket (octets ++ more) = subst IsPacket (sym split) is_inside.each.0 in
            let incomplete : front_of octets ≡ Incomplete =
            incomplete_before_end octets more packet [] is_inside.each.0 (split ∙ sym (append-nil packet)) (omega (arith, long, longer)) in
            let rest : 0 < length more = omega (arith, length-drop all packet, longer) in
            ap (λ l. delivered_in here next l ++ later) (take-append-le all packet (concat todo) inside)
            ∙ ap (λ l. l ++ later)
            (in_begun here next octets (omega (arith, long)) incomplete
            ∙ put_together count (number + 1) 0 here octets more todo some (next_count number) p rest cut)
            ∙ ap₂ (λ l ls. l ∷ ls) split (each more todo cut)
      ]

  -- the frames from this number on deliver the packets that begin in them
  delivered_later : (count number frame : ℕ) (before : List ℕ) (todo : List (List ℕ)) → 0 < room → IsCut room packets number before todo count
      → packets_delivered (deliveries_from frame (views_from number count)) ≡ todo
  delivered_later zero number frame before todo some cut =
      let size = cut.size in let none = zero-mul room in sym (no_octets todo cut.each (omega arith))
  delivered_later (suc count) number frame before todo some cut =
      let here = view_at number in
      let next = views_from (number + 1) count in
      let later : List (List ℕ) = packets_delivered (deliveries_from (frame + 1) next) in
      let octets = data_field_of room number (concat packets) in
      let pointer = pointer_is room packets number before todo count some cut in
      map-append (λ d. d.packet) (frame_deliveries frame here next) (deliveries_from (frame + 1) next)
      ∙ elim (leb_tells (suc (length before)) room) [
        | inl (test, inside) ↦
            let start = length before in
            let within : start ≤ room = omega (arith, inside) in
            let is : here.field ≡ Packets (Some start) octets = ap (λ f. Packets f octets) (pointer ∙ ap (λ b. if b then Some start else None) test) in
            let whole : start + (room - start) ≡ room = omega (arith, within) in
            let octets_are : drop start octets ≡ take (room - start) (concat todo) =
            ap (drop start) (field_is room packets number before todo (suc count) cut ∙ ap (λ n. take n (before ++ concat todo)) (sym whole) ∙ take-append-add before (concat todo) (room - start))
            ∙ drop-append_seam before (take (room - start) (concat todo)) in
            ap (λ l. l ++ later) (ap (λ f. packets_delivered (field_deliveries frame here next f)) is ∙ from_pointer frame here next start octets ∙ ap (delivered_in here next) octets_are)
            ∙ delivered_inside todo number (room - start) count later some (at_first_start room packets number before todo count within cut)
            (λ before' todo' s'. delivered_later count (number + 1) (frame + 1) before' todo' some s')
        | inr (test, beyond) ↦
            let covered : room ≤ length before = omega (arith, beyond) in
            let is : here.field ≡ Packets None octets = ap (λ f. Packets f octets) (pointer ∙ ap (λ b. if b then Some (length before) else None) test) in
            ap (λ l. l ++ later) (ap (λ f. packets_delivered (field_deliveries frame here next f)) is)
            ∙ delivered_later count (number + 1) (frame + 1) (drop room before) todo some (past_covered room packets number before todo count covered cut)
      ]

  -- all packets are delivered
  pub all_delivered : (count : ℕ) → 0 < room → AllByRecursion IsPacket packets → length (concat packets) ≡ count * room
      → packets_delivered (deliveries_of (views_from 0 count)) ≡ packets
  all_delivered count some each size = delivered_later count 0 0 [] packets some (first_cut room packets count each size)
