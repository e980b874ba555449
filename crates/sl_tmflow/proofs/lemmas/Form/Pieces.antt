-- The frames of a virtual channel, packet by packet: those that a packet completes are the next ones.
use Rattle.std.proofs.Common.{◌≡◌, ℕ, zero, suc, ◌+◌, ◌-◌, ◌*◌, ◌/◌, ◌%◌, ◌<◌, ◌≤◌, ◌==◌, if◌then◌else◌, List, [], ◌∷◌, ◌++◌, length, take, drop, map, Option, Some, None, refl, sym, ◌∙◌, ap, ap₂, arith, inl, inr, length-append, append_assoc, length-take-le, mul-le-mul_right}
use Rattle.std.specs.List.{concat, range_with_len}
use Rattle.std.proofs.lemmas.Bool.Decides.{eqb_tells}
use Rattle.std.proofs.lemmas.List.{length-drop, take-append-drop, take-append-le}
use Rattle.std.proofs.lemmas.Nat.{div-add-mod', mod_below}
use Rattle.std.proofs.Math.Nat.{add-mul, suc-mul, one-mul, zero-div}
use Rattle.std.proofs.Math.Seq.{drop-append_seam}
use Rattle.sl_tmframe.specs.PacketFrame.{field_room_of, packet_frame}
use Rattle.sl_tmframe.specs.TmFrame.{TmFormat}
use Rattle.sl_tmflow.specs.Form.{field_frames, heading_after}
use Rattle.sl_tmflow.specs.declared.form.Heading.{Heading}
use Rattle.sl_tmflow.specs.NormalForm.{first_of, data_field_of, channel_frame, channel_frames}
use Rattle.sl_tmflow.specs.PacketStart.{packet_offsets}
use Rattle.sl_tmflow.proofs.lemmas.Form.FieldStart.{found_in, lies_here, lies_elsewhere, no_later, skip_packet}
use Rattle.sl_tmflow.proofs.lemmas.Form.Fill.{no_filling}

-- ---- frames

-- the heading of a virtual channel's frame with this number, after `before` frames of other ones
abbrev pub numbered : ℕ → ℕ → ℕ → ℕ → Heading
numbered spacecraft vc before number = record { spacecraft = spacecraft; vc = vc; mc_count = (before + number) % 256; vc_count = number % 256 }

pub numbered_later : (spacecraft vc before number n : ℕ) → heading_after (numbered spacecraft vc before number) n ≡ numbered spacecraft vc before (number + n)
numbered_later spacecraft vc before number n = grind arith

-- a range of numbers in two parts
pub two_ranges : (f : ℕ → List ℕ) (n from m : ℕ) → map f (range_with_len from (n + m)) ≡ map f (range_with_len from n) ++ map f (range_with_len (from + n) m)
two_ranges f zero from m = grind arith
two_ranges f (suc n) from m =
    let long : suc n + m ≡ suc (n + m) = omega arith in
    let same : from + 1 + n ≡ from + suc n = omega arith in
    ap (λ k. map f (range_with_len from k)) long
    ∙ ap (λ l. f from ∷ l) (two_ranges f n (from + 1) m ∙ ap (λ k. map f (range_with_len (from + 1) n) ++ map f (range_with_len k m)) same)

module _ (format : TmFormat) (spacecraft vc before : ℕ) (packets : List (List ℕ)) where
  abbrev room : ℕ
  room = field_room_of format

  abbrev numbered_frame : ℕ → List ℕ
  numbered_frame = channel_frame format spacecraft vc before packets

  abbrev first_at : ℕ → Option ℕ
  first_at number = first_of room number (packet_offsets 0 packets [])

  -- the next data field is at the front of the octets after the data fields that were made
  field_is_next : (number : ℕ) (made octets more : List ℕ) → concat packets ≡ made ++ (octets ++ more) → length made ≡ number * room → room ≤ length octets
      → take room octets ≡ data_field_of room number (concat packets)
  field_is_next number made octets more parts size enough = grind (arith, drop-append_seam, take-append-le)

  pub fields_are : (many number : ℕ) (first : Option ℕ) (made octets more : List ℕ)
      → concat packets ≡ made ++ (octets ++ more) → length made ≡ number * room → many * room ≤ length octets
      → (0 < many → first_at number ≡ first)
      → ((j : ℕ) → number < j → j < number + many → first_at j ≡ None)
      → field_frames format many (numbered spacecraft vc before number) first octets ≡ concat (map numbered_frame (range_with_len number many))
  fields_are zero number first made octets more parts size enough here later = refl
  fields_are (suc many) number first made octets more parts size enough here later =
      let rooms = suc-mul many room in
      let one = add-mul number 1 room in
      let once = one-mul room in
      let fits : room ≤ length octets = omega arith in
      let front = length-take-le room octets fits in
      let halves : octets ++ more ≡ take room octets ++ (drop room octets ++ more) =
      ap (λ l. l ++ more) (sym (take-append-drop room octets)) ∙ append_assoc (take room octets) (drop room octets) more in
      ap (λ f. f ++ field_frames format many (heading_after (numbered spacecraft vc before number) 1) None (drop room octets))
      (ap₂ (packet_frame format spacecraft vc ((before + number) % 256) (number % 256)) (sym (here (omega arith))) (field_is_next number made octets more parts size fits))
      ∙ ap (λ h. numbered_frame number ++ field_frames format many h None (drop room octets)) (numbered_later spacecraft vc before number 1)
      ∙ ap (λ l. numbered_frame number ++ l)
      (fields_are many (number + 1) None (made ++ take room octets) (drop room octets) more
      (parts ∙ ap (λ l. made ++ l) halves ∙ sym (append_assoc made (take room octets) (drop room octets ++ more)))
      (omega (arith, length-append made (take room octets), size, front, one, once, fits))
      (omega (arith, length-drop room octets, enough, rooms))
      (λ some. later (number + 1) (omega arith) (omega (arith, some)))
      (λ j above below. later j (omega (arith, above)) (omega (arith, below))))

-- ---- where packets start

-- Of a channel with these packets, `count` data fields were made. The packets `later` are still to
-- be taken, and `octets` are the octets of the taken packets that don't fill a data field yet.
pub record IsPending (room : ℕ) (packets : List (List ℕ)) (count start : ℕ) (octets : List ℕ) (later : List (List ℕ)) : Type 0 where
  pub made : List ℕ
  pub parts : concat packets ≡ made ++ (octets ++ concat later)
  pub size : length made ≡ count * room
  -- in each data field after the next one, the first packet start is one of the packets `later`, if
  -- a packet starts there
  pub after : (number : ℕ) → count < number → found_in room number 0 packets ≡ found_in room number (count * room + length octets) later
  -- if there is a packet to be taken, `start` is the first packet start of the next data field
  pub first : (packet : List ℕ) (more : List (List ℕ)) → later ≡ packet ∷ more → found_in room count 0 packets ≡ Some (count * room + start)

pub found_here : (room number offset : ℕ) (next : List ℕ) (more : List (List ℕ)) → offset < room → found_in room number (number * room + offset) (next ∷ more) ≡ Some (number * room + offset)
found_here room number offset next more inside = rw (lies_here room number offset inside) refl

module _ (room : ℕ) (packets : List (List ℕ)) (count start : ℕ) (octets packet : List ℕ) (later : List (List ℕ)) (few : length octets < room) (p : IsPending room packets count start octets (packet ∷ later)) where
  abbrev all : List ℕ
  all = octets ++ packet

  abbrev many : ℕ
  many = length all / room

  -- the packet doesn't start in a later data field
  past : (number : ℕ) → count < number → found_in room number 0 packets ≡ found_in room number (count * room + length all) later
  past number above = grind (arith, length-append, skip_packet, lies_elsewhere)

  -- the octets of whole data fields, and the octets beyond them
  whole : many * room + length (drop (many * room) all) ≡ length all
  whole = let parts = div-add-mod' (length all) room in omega (arith, parts, length-drop (many * room) all)

  pub beyond_few : length (drop (many * room) all) < room
  beyond_few = let parts = div-add-mod' (length all) room in let below = mod_below (length all) room (omega (arith, few)) in omega (arith, parts, below, length-drop (many * room) all)

  pub starts_here : first_of room count (packet_offsets 0 packets []) ≡ Some start
  starts_here =
      let back : count * room + start - count * room ≡ start = omega arith in
      rw (p.first packet later refl, back) refl

  pub starts_no_later : (number : ℕ) → count < number → number < count + many → first_of room number (packet_offsets 0 packets []) ≡ None
  starts_no_later number above below =
      let least : (number + 1) * room ≤ (count + many) * room = mul-le-mul_right room (omega (arith, below)) in
      let one = add-mul number 1 room in
      let once = one-mul room in
      let sum = add-mul count many room in
      let parts = whole in
      let none : found_in room number 0 packets ≡ None = past number above ∙ no_later room number (count * room + length all) later (omega (arith, few)) (omega (arith, least, one, once, sum, parts)) in
      rw (none) refl

  pub pending_next : IsPending room packets (count + many) (if many == 0 then start else length (drop (many * room) all)) (drop (many * room) all) later
  pending_next =
      let sum = add-mul count many room in
      let parts = whole in
      let at : count * room + length all ≡ (count + many) * room + length (drop (many * room) all) = omega (arith, sum, parts) in
      let halves : octets ++ (packet ++ concat later) ≡ take (many * room) all ++ (drop (many * room) all ++ concat later) =
      sym (append_assoc octets packet (concat later)) ∙ ap (λ l. l ++ concat later) (sym (take-append-drop (many * room) all)) ∙ append_assoc (take (many * room) all) (drop (many * room) all) (concat later) in
      record {
        made = p.made ++ take (many * room) all;
        parts = p.parts ∙ ap (λ l. p.made ++ l) halves ∙ sym (append_assoc p.made (take (many * room) all) (drop (many * room) all ++ concat later));
        size = omega (arith, length-append p.made (take (many * room) all), p.size, sum, parts, length-take-le (many * room) all (omega arith));
        after = λ number above. past number (omega (arith, above)) ∙ ap (λ n. found_in room number n later) at;
        first = λ next more is. elim (eqb_tells many 0) [
          | inl (test, none) ↦
              let same : count + many ≡ count = omega (arith, none) in
              rw (test, same) (p.first packet later refl)
          | inr (test, some) ↦
              rw (test) (past (count + many) (omega (arith, some)) ∙ ap (λ n. found_in room (count + many) n later) at ∙ ap (found_in room (count + many) ((count + many) * room + length (drop (many * room) all))) is
              ∙ found_here room (count + many) (length (drop (many * room) all)) next more beyond_few)
        ];
      }

-- a channel without packets has no frames
pub no_frames : (format : TmFormat) (spacecraft vc mc : ℕ) → channel_frames format spacecraft vc mc [] ≡ []
no_frames format spacecraft vc mc = grind (arith, no_filling, zero-div)
