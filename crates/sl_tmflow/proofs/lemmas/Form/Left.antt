-- The octets that are still to come of a normal form that is made piece by piece: what each step of the code makes of
-- them, and that at first they are the normal form.
use Rattle.std.proofs.Common.{◌≡◌, ◌≢◌, ℕ, zero, suc, ◌+◌, ◌-◌, ◌*◌, ◌/◌, ◌%◌, ◌<◌, ◌≤◌, ◌==◌, false, List, [], ◌∷◌, ◌++◌, length, take, drop, map, ne_eqb, Option, Some, refl, sym, ◌∙◌, ap, ap₂, subst, arith, inl, inr, length-append, append_assoc, append-nil}
use Rattle.std.specs.List.{AllByRecursion, concat, range_with_len, slice_index_or}
use Rattle.std.proofs.lemmas.Bool.Decides.{eqb_tells}
use Rattle.std.proofs.lemmas.List.{length-take, drop_all, drop_more, get_or-take}
use Rattle.std.proofs.lemmas.List.Folds.{concat-append}
use Rattle.std.proofs.lemmas.List.FromFn.{length-map-range_with_len}
use Rattle.std.proofs.lemmas.Nat.{div-add-mod', div-mul-add}
use Rattle.std.proofs.Math.Nat.{add-mul, zero-mul, le-div_iff_mul-le, mod-eq_of_lt, mul-add-mod_self_right}
use Rattle.std.specs.Vec.{vec_items}
use Rattle.sl_fields.proofs.FecfLemmas.{length-with_fecf}
use Rattle.sl_fields.proofs.Octets.{length-octets_of}
use Rattle.sl_packet.specs.Delivered.{IsDeliverable}
use Rattle.sl_packet.specs.IdlePacket.{idle_packet}
use Rattle.sl_tmframe.specs.PacketFrame.{field_room_of}
use Rattle.sl_tmframe.specs.TmFrame.{TmFormat}
use Rattle.sl_tmflow.specs.Form.{beyond_fields, channel_left, field_frames, fields_in, filled_up, form_left, filled_frames, heading_after, lists_left, next_channel, start_after}
use Rattle.sl_tmflow.specs.NormalForm.{channel_frame, channel_frames, fill_of, filling, frames_from_channel, normal_form, with_filling}
use Rattle.sl_tmflow.specs.FormModel.{IsTmForm, octets_to_come}
use Rattle.sl_tmflow.specs.declared.form.Heading.{Heading}
use Rattle.sl_tmflow.specs.declared.form.TmForm.TheInside.{Inside}
use Rattle.sl_tmflow.proofs.lemmas.Form.Delivery.{short_room, wide_room}
use Rattle.sl_tmflow.proofs.lemmas.Form.FieldStart.{found_in}
use Rattle.sl_tmflow.proofs.lemmas.Form.Fill.{fill_is_least, filled_octets, filled_whole, no_filling}
use Rattle.sl_tmflow.proofs.lemmas.Form.Frames.{few_beyond, none_beyond_filling, none_filled}
use Rattle.sl_tmflow.proofs.lemmas.Form.Pieces.{IsPending, beyond_few, fields_are, found_here, no_frames, numbered, numbered_later, pending_next, starts_here, starts_no_later, two_ranges}

-- ---- the code's steps

last_frames : (format : TmFormat) (h : Heading) (start : ℕ) (octets : List ℕ) (others : Heading → List ℕ) → 0 < length octets
    → channel_left format h start octets [] others ≡ filled_frames format h (Some start) (filled_up format octets) ++ others (heading_after h (fields_in format (filled_up format octets)))
last_frames format h start [] others some = absurd (omega arith)
last_frames format h start (octet ∷ octets) others some = refl

module _ (format : TmFormat) (h h' : Heading) (start start' : ℕ) (octets octets' : List ℕ) (packets packets' : List (List ℕ)) (lists : List (List (List ℕ))) (frames : ℕ) where
  -- a packet is taken
  pub takes_packet : (packet : List ℕ) → packets ≡ packet ∷ packets' → octets' ≡ beyond_fields format (octets ++ packet) → frames ≡ fields_in format (octets ++ packet)
      → h' ≡ heading_after h frames → start' ≡ start_after start frames octets'
      → form_left format h start octets packets (drop (h.vc + 1) lists) ≡ filled_frames format h (Some start) (octets ++ packet) ++ form_left format h' start' octets' packets' (drop (h'.vc + 1) lists)
  unfolding form_left
  takes_packet packet are beyond many head next = rw (are, next, head, beyond, many) refl

  -- the octets are filled up
  pub fills_up : 7 ≤ field_room_of format → field_room_of format ≤ 65536 → 0 < length octets → packets ≡ [] → octets' ≡ beyond_fields format (filled_up format octets) → frames ≡ fields_in format (filled_up format octets)
      → h' ≡ heading_after h frames
      → form_left format h start octets packets (drop (h.vc + 1) lists) ≡ filled_frames format h (Some start) (filled_up format octets) ++ form_left format h' start' octets' packets (drop (h'.vc + 1) lists)
  unfolding form_left
  fills_up wide short some none beyond many head = rw (none, head, beyond ∙ none_beyond_filling format octets wide short, many) (last_frames format h start octets _ some)

-- a frame count stays where no frame is made
pub same_heading : (h : Heading) → h.mc_count < 256 → h.vc_count < 256 → heading_after h 0 ≡ h
same_heading h mc vc =
    let mc_is : (h.mc_count + 0) % 256 ≡ h.mc_count = omega (arith, mc) in
    let vc_is : (h.vc_count + 0) % 256 ≡ h.vc_count = omega (arith, vc) in
    rw (mc_is, vc_is) refl

-- packets that don't fill a data field are taken
takes_inside : (format : TmFormat) (h : Heading) (start : ℕ) (octets : List ℕ) (inside packets : List (List ℕ)) (others : Heading → List ℕ)
    → heading_after h 0 ≡ h → length (octets ++ concat inside) < field_room_of format
    → channel_left format h start octets (inside ++ packets) others ≡ channel_left format h start (octets ++ concat inside) packets others
takes_inside format h start octets [] packets others same few = ap (λ o. channel_left format h start o packets others) (sym (append-nil octets))
takes_inside format h start octets (packet ∷ inside) packets others same few =
    let all = octets ++ packet in
    let parts = append_assoc octets packet (concat inside) in
    let below : length all < field_room_of format = omega (arith, few, ap length parts, length-append all (concat inside)) in
    rw (few_beyond format all below, none_filled format all below, same)
    (takes_inside format h start all inside packets others same (omega (arith, few, ap length parts))
    ∙ ap (λ o. channel_left format h start o packets others) parts)

module _ (format : TmFormat) (h h' : Heading) (tail : List ℕ) (packets : List (List ℕ)) (lists : List (List (List ℕ))) (frames : ℕ) where
  -- packets fill a data field, and maybe more
  pub takes_field : (inside packets' : List (List ℕ)) (packet tail' : List ℕ) → heading_after h 0 ≡ h → packets ≡ inside ++ (packet ∷ packets')
      → length (tail ++ concat inside) < field_room_of format → tail' ≡ beyond_fields format ((tail ++ concat inside) ++ packet)
      → frames ≡ fields_in format ((tail ++ concat inside) ++ packet) → 0 < frames → h' ≡ heading_after h frames
      → form_left format h (length tail) tail packets (drop (h.vc + 1) lists)
      ≡ filled_frames format h (Some (length tail)) ((tail ++ concat inside) ++ packet) ++ form_left format h' (length tail') tail' packets' (drop (h'.vc + 1) lists)
  unfolding form_left
  takes_field inside packets' packet tail' same are few beyond many some head =
      let others = λ (k : Heading). lists_left format (next_channel k) (drop (h.vc + 1) lists) in
      let test : (frames == 0) ≡ false = ne_eqb frames 0 (λ none. absurd (omega (arith, some, none))) in
      let next : length tail' ≡ start_after (length tail) frames tail' = rw (test) refl in
      ap (λ l. channel_left format h (length tail) tail l others) are
      ∙ takes_inside format h (length tail) tail inside (packet ∷ packets') others same few
      ∙ takes_packet format h h' (length tail) (length tail') (tail ++ concat inside) tail' (packet ∷ packets') packets' lists frames packet refl beyond many head next

  -- the last octets of a virtual channel are filled up
  pub fills_last : 7 ≤ field_room_of format → field_room_of format ≤ 65536 → heading_after h 0 ≡ h → 0 < length (tail ++ concat packets)
      → length (tail ++ concat packets) < field_room_of format → frames ≡ fields_in format (filled_up format (tail ++ concat packets)) → h' ≡ heading_after h frames
      → form_left format h (length tail) tail packets (drop (h.vc + 1) lists)
      ≡ filled_frames format h (Some (length tail)) (filled_up format (tail ++ concat packets)) ++ form_left format h' 0 [] [] (drop (h'.vc + 1) lists)
  unfolding form_left
  fills_last wide short same some few many head =
      let others = λ (k : Heading). lists_left format (next_channel k) (drop (h.vc + 1) lists) in
      let octets = tail ++ concat packets in
      ap (λ l. channel_left format h (length tail) tail l others) (sym (append-nil packets))
      ∙ takes_inside format h (length tail) tail packets [] others same few
      ∙ fills_up format h h' (length tail) 0 octets [] [] [] lists frames wide short some refl (sym (none_beyond_filling format octets wide short)) many head

module _ (format : TmFormat) (h : Heading) (start : ℕ) (lists : List (List (List ℕ))) where
  -- the next virtual channel comes
  pub next_comes : (packets : List (List ℕ)) → h.vc < 7 → 8 ≤ length lists → packets ≡ slice_index_or lists (h.vc + 1) []
      → form_left format h start [] [] (drop (h.vc + 1) (take 8 lists)) ≡ form_left format (next_channel h) 0 [] packets (drop (h.vc + 1 + 1) (take 8 lists))
  unfolding form_left
  next_comes packets below size are =
      let inside : h.vc + 1 < length (take 8 lists) = omega (arith, length-take 8 lists, size, below) in
      let here : h.vc + 1 < 8 = omega (arith, below) in
      rw (are, drop_more (take 8 lists) (h.vc + 1) [] inside, get_or-take 8 lists (h.vc + 1) [] here) refl

  -- no virtual channel is left
  pub none_comes : 7 ≤ h.vc → form_left format h start [] [] (drop (h.vc + 1) (take 8 lists)) ≡ []
  unfolding form_left
  none_comes last = rw (drop_all (h.vc + 1) (take 8 lists) (omega (arith, length-take 8 lists, last))) refl

-- ---- at first

-- the filling depends only on the octets beyond whole rooms
same_filling : (room a b : ℕ) → a % room ≡ b % room → filling room a ≡ filling room b
same_filling room a b same = rw (same) refl

module _ (format : TmFormat) (spacecraft vc before : ℕ) (packets : List (List ℕ)) (wide : 7 ≤ field_room_of format) (short : field_room_of format ≤ 65536) where
  abbrev room : ℕ
  room = field_room_of format

  abbrev filled : List (List ℕ)
  filled = with_filling room packets

  abbrev last : List (List ℕ)
  last = filling room (length (concat packets))

  abbrev heading : ℕ → Heading
  heading = numbered spacecraft vc before

  abbrev frame : ℕ → List ℕ
  frame = channel_frame format spacecraft vc before filled

  -- `many` frames from the one with a number on
  abbrev frames : ℕ → ℕ → List ℕ
  frames number many = concat (map frame (range_with_len number many))

  -- the frames that a packet completes are the next ones
  next_frames : (count many start : ℕ) (octets packet : List ℕ) (later : List (List ℕ)) → length octets < room → IsPending room filled count start octets (packet ∷ later) → count + many ≡ length (concat filled) / room
      → (fields_in format (octets ++ packet) ≤ many)
      × (frames count many ≡ filled_frames format (heading count) (Some start) (octets ++ packet) ++ frames (count + fields_in format (octets ++ packet)) (many - fields_in format (octets ++ packet)))
  next_frames count many start octets packet later few p total =
      let all = octets ++ packet in
      let n = fields_in format all in
      let fields = div-add-mod' (length all) room in
      let inside : concat filled ≡ p.made ++ (all ++ concat later) = p.parts ∙ ap (λ o. p.made ++ o) (sym (append_assoc octets packet (concat later))) in
      let sum = add-mul count n room in
      let roomy : 0 < room = omega (arith, wide) in
      let long : (count + n) * room ≤ length (concat filled) =
      omega (arith, sum, p.size, fields, ap length inside, length-append p.made (all ++ concat later), length-append all (concat later)) in
      let enough : count + n ≤ length (concat filled) / room = (le-div_iff_mul-le roomy).1 long in
      let split : many ≡ n + (many - n) = omega (arith, enough, total) in
      let these = fields_are format spacecraft vc before filled n count (Some start) p.made all (concat later) inside p.size (omega (arith, fields))
      (λ some. starts_here room filled count start octets packet later few p) (starts_no_later room filled count start octets packet later few p) in (
        omega (arith, enough, total),
        ap (frames count) split ∙ ap concat (two_ranges frame n count (many - n)) ∙ concat-append (map frame (range_with_len count n)) (map frame (range_with_len (count + n) (many - n)))
            ∙ ap (λ l. l ++ frames (count + n) (many - n)) (sym these),
      )

  -- where all packets are taken, they fill what was made and is kept
  at_end : (count start : ℕ) (octets : List ℕ) → IsPending room filled count start octets last → (length (concat packets) ≡ count * room + length octets) × (last ≡ filling room (length octets))
  at_end count start octets p =
      let size : length (concat packets) ≡ count * room + length octets =
      omega (arith, ap length (filled_octets room packets ∙ p.parts), length-append (concat packets) (concat last), length-append p.made (octets ++ concat last), length-append octets (concat last), p.size) in
      (size, same_filling room (length (concat packets)) (length octets) (ap (λ n. n % room) size ∙ mul-add-mod_self_right count room (length octets)))

  -- then no frames are left where no octets are kept,
  none_kept_at_end : (count many start : ℕ) → IsPending room filled count start [] last → count + many ≡ length (concat filled) / room → many ≡ 0
  none_kept_at_end count many start p total =
      let (size, is) = at_end count start [] p in
      let none = ap (λ (l : List (List ℕ)). length (concat l)) (is ∙ no_filling room) in
      let rooms : length (concat filled) ≡ count * room + 0 = omega (arith, ap length (filled_octets room packets), length-append (concat packets) (concat last), size, none) in
      omega (arith, total, ap (λ n. n / room) rooms ∙ div-mul-add count room 0 (omega (arith, wide)))

  -- and otherwise the idle packet is left, and completes all frames
  one_packet : (len : ℕ) → 0 < len → len < room → filling room len ≡ concat (filling room len) ∷ []
  one_packet len some few =
      elim (eqb_tells (fill_of room len) 0) [
        | inl (test, none) ↦
            let sum : len ≡ len + fill_of room len = omega (arith, none) in
            absurd (omega (arith, some, sym (mod-eq_of_lt few) ∙ ap (λ n. n % room) sum ∙ (fill_is_least room len wide).fills))
        | inr (test, there) ↦ rw (test) (ap (λ q. q ∷ []) (sym (append-nil (idle_packet (fill_of room len)))))
      ]

  some_kept : (count many start : ℕ) (octets : List ℕ) → 0 < length octets → length octets < room → IsPending room filled count start octets last → count + many ≡ length (concat filled) / room
      → (frames count many ≡ filled_frames format (heading count) (Some start) (filled_up format octets)) × (fields_in format (filled_up format octets) ≡ many)
  some_kept count many start octets some few p total =
      let idle = concat (filling room (length octets)) in
      let all = octets ++ idle in
      let next = subst (IsPending room filled count start octets) ((at_end count start octets p).1 ∙ one_packet (length octets) some few) p in
      let (inside, split) = next_frames count many start octets idle [] few next total in
      let parts = div-add-mod' (length (concat filled)) room in
      let rooms : length all ≡ many * room + 0 =
      omega (arith, ap length next.parts, next.size, length-append next.made (octets ++ (idle ++ [])), length-append octets (idle ++ []), length-append idle [], length-append octets idle, parts, filled_whole room packets wide short, ap (λ n. n * room) total, add-mul count many room) in
      let is : fields_in format all ≡ many = ap (λ n. n / room) rooms ∙ div-mul-add many room 0 (omega (arith, wide)) in
      let none : many - fields_in format all ≡ 0 = omega (arith, is) in
      (split ∙ ap (λ n. filled_frames format (heading count) (Some start) all ++ frames (count + fields_in format all) n) none ∙ append-nil (filled_frames format (heading count) (Some start) all), is)

  -- the octets to come are those of the frames that weren't made, and those of later channels
  still_to_come : (later : List (List ℕ)) (count many start : ℕ) (octets : List ℕ) (others : Heading → List ℕ) → length octets < room → IsPending room filled count start octets (later ++ last)
      → count + many ≡ length (concat filled) / room → channel_left format (heading count) start octets later others ≡ frames count many ++ others (heading (count + many))
  still_to_come (packet ∷ later) count many start octets others few p total =
      let all = octets ++ packet in
      let n = fields_in format all in
      let these = filled_frames format (heading count) (Some start) all in
      let (inside, split) = next_frames count many start octets packet (later ++ last) few p total in
      let end : count + n + (many - n) ≡ count + many = omega (arith, inside) in
      ap (λ k. these ++ channel_left format k (start_after start n (beyond_fields format all)) (beyond_fields format all) later others) (numbered_later spacecraft vc before count n)
      ∙ ap (λ l. these ++ l)
      (still_to_come later (count + n) (many - n) (start_after start n (beyond_fields format all)) (beyond_fields format all) others
      (beyond_few room filled count start octets packet (later ++ last) few p) (pending_next room filled count start octets packet (later ++ last) few p) (omega (arith, end, total)))
      ∙ sym (append_assoc these (frames (count + n) (many - n)) (others (heading (count + n + (many - n)))))
      ∙ ap₂ (λ f k. f ++ others (heading k)) (sym split) end
  still_to_come [] count many start [] others few p total =
      let same : count ≡ count + 0 = omega arith in
      ap (λ k. others (heading k)) same ∙ ap (λ n. frames count n ++ others (heading (count + n))) (sym (none_kept_at_end count many start p total))
  still_to_come [] count many start (octet ∷ octets) others few p total =
      let all = filled_up format (octet ∷ octets) in
      let (these, is) = some_kept count many start (octet ∷ octets) (omega arith) few p total in
      ap (λ k. filled_frames format (heading count) (Some start) all ++ others k) (numbered_later spacecraft vc before count (fields_in format all))
      ∙ ap₂ (λ f k. f ++ others (heading (count + k))) (sym these) is

  -- at the front of the channel no packet is taken
  at_front : IsPending room filled 0 0 [] filled
  at_front =
      let none = zero-mul room in
      let front : 0 * room + 0 ≡ 0 = omega (arith, none) in
      record {
        made = [];
        parts = refl;
        size = sym none;
        after = λ number above. ap (λ n. found_in room number n filled) (sym front);
        first = λ packet more is. ap (found_in room 0 0) is ∙ ap (λ n. found_in room 0 n (packet ∷ more)) (sym front) ∙ found_here room 0 0 packet more (omega (arith, wide));
      }

from_channel : (format : TmFormat) (spacecraft : ℕ) → 7 ≤ field_room_of format → field_room_of format ≤ 65536 → (lists : List (List (List ℕ))) (vc before master : ℕ) → master ≡ before % 256
    → lists_left format (record { spacecraft = spacecraft; vc = vc; mc_count = master; vc_count = 0 }) lists ≡ concat (frames_from_channel format spacecraft vc before lists)
from_channel format spacecraft wide short [] vc before master is = refl
from_channel format spacecraft wide short (packets ∷ lists) vc before master is =
    let filled = with_filling (field_room_of format) packets in
    let total = length (concat filled) / field_room_of format in
    let own = channel_frames format spacecraft vc before packets in
    let others = λ (k : Heading). lists_left format (next_channel k) lists in
    let first : master ≡ (before + 0) % 256 = omega (arith, is) in
    let count : length own ≡ total = length-map-range_with_len (channel_frame format spacecraft vc before filled) 0 total in
    ap (λ m. channel_left format (record { spacecraft = spacecraft; vc = vc; mc_count = m; vc_count = 0 }) 0 [] packets others) first
    ∙ still_to_come format spacecraft vc before packets wide short packets 0 total 0 [] others (omega (arith, wide)) (at_front format spacecraft vc before packets wide short) (omega arith)
    ∙ ap (λ l. concat own ++ l) (from_channel format spacecraft wide short lists (vc + 1) (before + length own) ((before + (0 + total)) % 256) (omega (arith, count)))
    ∙ sym (concat-append own (frames_from_channel format spacecraft (vc + 1) (before + length own) lists))

-- where nothing is made, the normal form is still to come
pub all_left : (format : TmFormat) (spacecraft : ℕ) (lists : List (List (List ℕ))) → 7 ≤ field_room_of format → field_room_of format ≤ 65536
    → form_left format (record { spacecraft = spacecraft; vc = 0; mc_count = 0; vc_count = 0 }) 0 [] (slice_index_or lists 0 []) (drop 1 (take 8 lists)) ≡ normal_form format spacecraft (take 8 lists)
unfolding form_left
all_left format spacecraft [] wide short = refl
all_left format spacecraft (packets ∷ lists) wide short = from_channel format spacecraft wide short (take 8 (packets ∷ lists)) 0 0 0 refl

-- ---- where packets are left, so are octets

-- the frames of data fields
pub some_frames : (format : TmFormat) (many : ℕ) (h : Heading) (first : Option ℕ) (octets : List ℕ) → 0 < many → 0 < length (field_frames format many h first octets)
some_frames format zero h first octets some = absurd (omega arith)
some_frames format (suc many) h first octets some = grind (arith, length-append, length-with_fecf, length-octets_of)

-- octets that complete no frame are all kept
kept_whole : (format : TmFormat) (all : List ℕ) → fields_in format all ≡ 0 → beyond_fields format all ≡ all
kept_whole format all none = ap (λ k. drop (k * field_room_of format) all) none ∙ ap (λ k. drop k all) (zero-mul (field_room_of format))

pub some_filled : (format : TmFormat) (octets : List ℕ) → 7 ≤ field_room_of format → field_room_of format ≤ 65536 → 0 < length octets → 0 < fields_in format (filled_up format octets)
some_filled format octets wide short some =
    let all = filled_up format octets in
    elim (eqb_tells (fields_in format all) 0) [
      | inl (test, none) ↦
          absurd (omega (arith, some, ap length (sym (kept_whole format all none) ∙ none_beyond_filling format octets wide short), length-append octets (concat (filling (field_room_of format) (length octets)))))
      | inr (test, there) ↦ omega (arith, there)
    ]

pub some_left : (format : TmFormat) → 7 ≤ field_room_of format → field_room_of format ≤ 65536 → (packets : List (List ℕ)) (h : Heading) (start : ℕ) (octets : List ℕ) (others : Heading → List ℕ)
    → AllByRecursion IsDeliverable packets → 0 < length octets + length packets → 0 < length (channel_left format h start octets packets others)
some_left format wide short [] h start [] others each some = absurd (omega arith)
some_left format wide short [] h start (octet ∷ octets) others each some =
    let all = filled_up format (octet ∷ octets) in
    let long = some_frames format (fields_in format all) h (Some start) all (some_filled format (octet ∷ octets) wide short (omega arith)) in
    omega (arith, long, length-append (filled_frames format h (Some start) all) (others (heading_after h (fields_in format all))))
some_left format wide short (packet ∷ packets) h start octets others each some =
    let all = octets ++ packet in
    let n = fields_in format all in
    let these = filled_frames format h (Some start) all in
    let more = channel_left format (heading_after h n) (start_after start n (beyond_fields format all)) (beyond_fields format all) packets others in
    elim (eqb_tells n 0) [
      | inl (test, none) ↦
          let long = each.0.0.len in
          let later = some_left format wide short packets (heading_after h n) (start_after start n (beyond_fields format all)) (beyond_fields format all) others each.1
          (omega (arith, ap length (kept_whole format all none), length-append octets packet, long)) in
          omega (arith, length-append these more, later)
      | inr (test, there) ↦ omega (arith, length-append these more, some_frames format n h (Some start) all (omega (arith, there)))
    ]

-- a form of no packets
none_from : (format : TmFormat) (spacecraft : ℕ) (lists : List (List (List ℕ))) (vc before : ℕ) → ((channel : ℕ) → channel < length lists → slice_index_or lists channel [] ≡ [])
    → concat (frames_from_channel format spacecraft vc before lists) ≡ []
none_from format spacecraft [] vc before none = refl
none_from format spacecraft (packets ∷ lists) vc before none =
    rw (none 0 (omega arith), no_frames format spacecraft vc before) (none_from format spacecraft lists (vc + 1) (before + 0) (λ channel below. none (suc channel) (omega (arith, below))))

pub none_at_all : (format : TmFormat) (spacecraft : ℕ) (lists : List (List (List ℕ))) → ((channel : ℕ) → channel < 8 → slice_index_or lists channel [] ≡ []) → normal_form format spacecraft (take 8 lists) ≡ []
none_at_all format spacecraft lists none =
    none_from format spacecraft (take 8 lists) 0 0 (λ channel below.
    let inside : channel < 8 = omega (arith, length-take 8 lists, below) in
    get_or-take 8 lists channel [] inside ∙ none channel inside)

-- octets are still to come where some are kept or packets are left
pub octets_come : (f : Inside) → IsTmForm f → 0 < length f.tail.now + length (map vec_items f.packets.now) → octets_to_come f ≢ []
unfolding form_left
octets_come f is some none =
    let wide = wide_room f.shape is.format in
    let short = short_room f.shape is.format in
    let long = some_left f.shape (omega (arith, wide)) (omega (arith, short)) (map vec_items f.packets.now) f.heading (length f.tail.now) f.tail.now (λ k. lists_left f.shape (next_channel k) (drop (f.heading.vc + 1) (take 8 f.delivered.now.lists))) is.deliverable some in
    absurd (omega (arith, long, ap length none))
