-- The normal form of packets, read as a recording.
use Rattle.std.proofs.Common.{◌≡◌, ◌≢◌, ℕ, zero, suc, ◌+◌, ◌*◌, ◌/◌, ◌%◌, ◌<◌, ◌≤◌, List, [], ◌∷◌, ◌++◌, length, map, Option, refl, sym, ◌∙◌, ap, subst, arith, length-drop, length-take-le, append-nil, eq-eqb, ne_eqb, mul-le-mul_right, add-mul, one-mul}
use Rattle.std.proofs.lemmas.Grind.{common_steps}
use Rattle.std.specs.List.{AllByRecursion, concat, range_with_len, slice_index_or}
use Rattle.std.proofs.lemmas.List.{ext_get_or}
use Rattle.std.proofs.lemmas.List.Elements.{filter-append, filter_map-append}
use Rattle.std.proofs.lemmas.List.FromFn.{get_or-map-range_with_len}
use Rattle.std.proofs.lemmas.Nat.{div-add-mod', mod_below}
use Rattle.sl_fields.proofs.FecfLemmas.{fecf_len_le}
use Rattle.sl_packet.specs.Delivered.{IsDeliverable}
use Rattle.sl_packet.specs.Packets.{without_idle}
use Rattle.sl_tmframe.specs.PacketFrame.{FitFrame, field_room_of, packet_frame, packet_view}
use Rattle.sl_tmframe.specs.TmFrame.{TmFormat, TmView}
use Rattle.sl_tmframe.proofs.DelimitedLemmas.{only_frames}
use Rattle.sl_tmframe.proofs.PacketFrameLemmas.{length-packet_frame, packet_frame_back}
use Rattle.sl_tmflow.specs.FormDelivery.{AreDeliverable, IsFormat, IsNotSkipped, NoFrameIsSkipped, NormalFormIsFrames, NormalFormDelivers}
use Rattle.sl_tmflow.specs.VirtualChannel.{views_of, views_on}
use Rattle.sl_tmflow.specs.Delivery.{deliveries_of, packets_delivered}
use Rattle.sl_tmflow.specs.NormalForm.{with_filling, data_field_of, first_of, channel_frame, channel_frames, frames_from_channel, normal_form}
use Rattle.sl_tmflow.specs.PacketStart.{packet_offsets}
use Rattle.sl_tmflow.specs.Recording.{packets_of_channel, recorded_views, virtual_channels}
use Rattle.sl_tmflow.proofs.lemmas.Form.CutDelivery.{all_delivered, views_from}
use Rattle.sl_fields.proofs.ListLemmas.{each-append, each-at, each-every, each-map, each-weaker, filter_all, filter_none}
use Rattle.sl_packet.proofs.WithoutIdleLemmas.{due_packets}
use Rattle.sl_tmflow.proofs.lemmas.Form.Fill.{filled_whole, filled_without_idle, filling_is}
use Rattle.sl_tmflow.proofs.lemmas.Form.FieldStart.{each_pointer_is_least}

-- the room of a data field
pub wide_room : (format : TmFormat) → IsFormat format → 24 ≤ field_room_of format
wide_room format is = let least = is.least in let last = fecf_len_le format.fecf in omega arith

pub short_room : (format : TmFormat) → IsFormat format → field_room_of format ≤ 2042
short_room format is = let most = is.most in omega arith

-- each frame of packets of this format and spacecraft has the property
abbrev EachFrameIs : TmFormat → ℕ → (List ℕ → Type 0) → Type 0
EachFrameIs format spacecraft P =
    (vc mc vcc : ℕ) (first : Option ℕ) (field : List ℕ) → FitFrame format spacecraft vc mc vcc first field → P (packet_frame format spacecraft vc mc vcc first field)

-- ---- the frames of packets that fill a number of data fields

module _ (format : TmFormat) (spacecraft vc mc : ℕ) (packets : List (List ℕ)) (count : ℕ) (is : IsFormat format) (fits : spacecraft ≤ 1023) (vc_fits : vc ≤ 7)
    (size : length (concat packets) ≡ count * field_room_of format) where
  abbrev room : ℕ
  room = field_room_of format

  abbrev frames : ℕ → ℕ → List (List ℕ)
  frames number many = map (channel_frame format spacecraft vc mc packets) (range_with_len number many)

  field_filled : (number : ℕ) → number < count → length (data_field_of room number (concat packets)) ≡ room
  field_filled number below = grind (arith, common_steps, mul-le-mul_right, add-mul, one-mul, length-take-le, length-drop)

  frame_fits : (number : ℕ) → number < count
      → FitFrame format spacecraft vc ((mc + number) % 256) (number % 256) (first_of room number (packet_offsets 0 packets [])) (data_field_of room number (concat packets))
  frame_fits number below = grind (arith, wide_room, mod_below, each_pointer_is_least, field_filled)

  -- a property of each frame that fits is one of these frames
  frames_each : (P : List ℕ → Type 0) → EachFrameIs format spacecraft P → (many number : ℕ) → number + many ≤ count → AllByRecursion P (frames number many)
  frames_each P each zero number inside = tt
  frames_each P each (suc many) number inside = grind (arith, frame_fits, frames_each P each many (number + 1) (omega (arith, inside)))

  frames_back : (many number : ℕ) → number + many ≤ count → views_of format spacecraft (frames number many) ≡ views_from room vc mc packets number many
  frames_back zero number inside = refl
  frames_back (suc many) number inside = grind (arith, frame_fits, packet_frame_back, frames_back many (number + 1) (omega (arith, inside)))

-- ---- the frames of a virtual channel

-- the frames of a virtual channel, as they are read
abbrev pub channel_views : TmFormat → ℕ → ℕ → List (List ℕ) → List TmView
channel_views format vc mc packets =
    let room = field_room_of format in
    let filled = with_filling room packets in
    views_from room vc mc filled 0 (length (concat filled) / room)

pub channel_of_own : (format : TmFormat) (vc mc : ℕ) (packets : List (List ℕ)) → AllByRecursion (λ view. view.vc ≡ vc) (channel_views format vc mc packets)
channel_of_own format vc mc packets = grind (arith, each-map, each-every)

module _ (format : TmFormat) (spacecraft vc mc : ℕ) (packets : List (List ℕ)) (is : IsFormat format) (fits : spacecraft ≤ 1023) (vc_fits : vc ≤ 7)
    (each : AllByRecursion IsDeliverable packets) where
  abbrev filled : List (List ℕ)
  filled = with_filling (field_room_of format) packets

  abbrev frame_count : ℕ
  frame_count = length (concat filled) / field_room_of format

  pub filled_size : length (concat filled) ≡ frame_count * field_room_of format
  filled_size = grind (arith, wide_room, div-add-mod', filled_whole, short_room)

  channel_each : (P : List ℕ → Type 0) → EachFrameIs format spacecraft P → AllByRecursion P (channel_frames format spacecraft vc mc packets)
  channel_each P each_is = frames_each format spacecraft vc mc filled frame_count is fits vc_fits filled_size P each_is frame_count 0 (omega arith)

  pub channel_back : views_of format spacecraft (channel_frames format spacecraft vc mc packets) ≡ channel_views format vc mc packets
  channel_back = frames_back format spacecraft vc mc filled frame_count is fits vc_fits filled_size frame_count 0 (omega arith)

  pub channel_delivers : without_idle (packets_delivered (deliveries_of (channel_views format vc mc packets))) ≡ packets
  channel_delivers = grind (arith, wide_room, all_delivered, filled_size, filled_without_idle, short_room, filling_is, each-append, due_packets)

-- ---- the frames of all virtual channels

of_none : (vc : ℕ) (views : List TmView) → AllByRecursion (λ view. view.vc ≡ vc → ⊥) views → views_on vc views ≡ []
of_none vc views others = grind (arith, filter_none, each-weaker, ne_eqb)

module _ (format : TmFormat) (spacecraft : ℕ) (is : IsFormat format) (fits : spacecraft ≤ 1023) where
  abbrev pub views_from_vc : ℕ → ℕ → List (List (List ℕ)) → List TmView
  views_from_vc vc mc lists = views_of format spacecraft (frames_from_channel format spacecraft vc mc lists)

  -- the number of frames up to the next virtual channel
  abbrev pub next : ℕ → ℕ → List (List ℕ) → ℕ
  next vc mc packets = mc + length (channel_frames format spacecraft vc mc packets)

  form_each : (P : List ℕ → Type 0) → EachFrameIs format spacecraft P → (lists : List (List (List ℕ))) (vc mc : ℕ) → vc + length lists ≤ 8
      → AllByRecursion (AllByRecursion IsDeliverable) lists → AllByRecursion P (frames_from_channel format spacecraft vc mc lists)
  form_each P each_is [] vc mc inside each = tt
  form_each P each_is (packets ∷ lists) vc mc inside each =
      let frames = channel_frames format spacecraft vc mc packets in
      each-append P frames (frames_from_channel format spacecraft (vc + 1) (mc + length frames) lists)
      (channel_each format spacecraft vc mc packets is fits (omega (arith, inside)) each.0 P each_is)
      (form_each P each_is lists (vc + 1) (mc + length frames) (omega (arith, inside)) each.1)

  -- the frames of the first virtual channel as they are read, and of the others
  pub form_parts : (packets : List (List ℕ)) (lists : List (List (List ℕ))) (vc mc : ℕ) → vc ≤ 7 → AllByRecursion IsDeliverable packets
      → views_from_vc vc mc (packets ∷ lists)
      ≡ channel_views format vc mc packets ++ views_from_vc (vc + 1) (mc + length (channel_frames format spacecraft vc mc packets)) lists
  form_parts packets lists vc mc inside each = grind (arith, filter_map-append, channel_back)

  pub form_above : (lists : List (List (List ℕ))) (vc mc : ℕ) → vc + length lists ≤ 8 → AllByRecursion (AllByRecursion IsDeliverable) lists
      → AllByRecursion (λ view. vc ≤ view.vc) (views_from_vc vc mc lists)
  form_above [] vc mc inside each = tt
  form_above (packets ∷ lists) vc mc inside each =
      let own = channel_views format vc mc packets in
      let rest = views_from_vc (vc + 1) (next vc mc packets) lists in
      subst (AllByRecursion (λ view. vc ≤ view.vc)) (sym (form_parts packets lists vc mc (omega (arith, inside)) each.0))
      (each-append (λ view. vc ≤ view.vc) own rest
      (each-weaker (λ view. view.vc ≡ vc) (λ view. vc ≤ view.vc) (λ view same. omega arith) own (channel_of_own format vc mc packets))
      (each-weaker (λ view. vc + 1 ≤ view.vc) (λ view. vc ≤ view.vc) (λ view above. omega arith) rest (form_above lists (vc + 1) (next vc mc packets) (omega (arith, inside)) each.1)))

  -- the frames of the first virtual channel, and those of another one
  pub first_channel : (packets : List (List ℕ)) (lists : List (List (List ℕ))) (vc mc : ℕ) → vc + 1 + length lists ≤ 8 → AllByRecursion IsDeliverable packets
      → AllByRecursion (AllByRecursion IsDeliverable) lists → views_on vc (views_from_vc vc mc (packets ∷ lists)) ≡ channel_views format vc mc packets
  first_channel packets lists vc mc inside own each = grind (arith, form_parts, filter-append, channel_of_own, of_none, each-weaker, form_above, append-nil, filter_all, eq-eqb)

  pub other_channel : (packets : List (List ℕ)) (lists : List (List (List ℕ))) (vc mc v : ℕ) → vc ≤ 7 → AllByRecursion IsDeliverable packets → vc ≢ v
      → views_on v (views_from_vc vc mc (packets ∷ lists)) ≡ views_on v (views_from_vc (vc + 1) (next vc mc packets) lists)
  other_channel packets lists vc mc v inside own other = grind (arith, form_parts, filter-append, of_none, each-weaker, channel_of_own)

  -- the frames of a virtual channel are those that its packets are divided into
  pub own_channel : (lists : List (List (List ℕ))) (vc mc v index : ℕ) → vc + length lists ≤ 8 → AllByRecursion (AllByRecursion IsDeliverable) lists → v ≡ vc + index → index < length lists
      → (before : ℕ) × (views_on v (views_from_vc vc mc lists) ≡ channel_views format v before (slice_index_or lists index []))
  own_channel [] vc mc v index inside each at below = absurd (omega arith)
  own_channel (packets ∷ lists) vc mc v zero inside each at below =
      let same : v ≡ vc = omega (arith, at) in
      rw same (mc, first_channel packets lists vc mc (omega (arith, inside)) each.0 each.1)
  own_channel (packets ∷ lists) vc mc v (suc index) inside each at below =
      let (before, is_own) = own_channel lists (vc + 1) (next vc mc packets) v index (omega (arith, inside)) each.1 (omega (arith, at)) (omega (arith, below)) in
      (before, other_channel packets lists vc mc v (omega (arith, inside)) each.0 (λ e. omega (arith, at, e)) ∙ is_own)

pub is_frames : NormalFormIsFrames
is_frames format spacecraft lists is fits due =
    record {
      end_to_end = sym (append-nil (normal_form format spacecraft lists));
      whole =
          let eight = due.eight in
          form_each format spacecraft is fits (λ frame. length frame ≡ format.len) (length-packet_frame format spacecraft) lists 0 0 (omega arith) due.each;
      short = let least = is.least in omega arith;
    }

pub none_is_skipped : NoFrameIsSkipped
none_is_skipped format spacecraft lists is fits due =
    let eight = due.eight in
    form_each format spacecraft is fits (IsNotSkipped format spacecraft)
    (λ vc mc vcc first field fit. (packet_view vc mc vcc first field, packet_frame_back format spacecraft vc mc vcc first field fit)) lists 0 0 (omega arith) due.each

-- the frames of the normal form are those that are read
pub views_are : (format : TmFormat) (spacecraft : ℕ) (lists : List (List (List ℕ))) → IsFormat format → spacecraft ≤ 1023 → AreDeliverable lists
    → recorded_views format spacecraft (normal_form format spacecraft lists) ≡ views_of format spacecraft (frames_from_channel format spacecraft 0 0 lists)
views_are format spacecraft lists is fits due = grind (arith, only_frames, is_frames)

pub delivers : NormalFormDelivers
delivers format spacecraft lists is fits due =
    let eight = due.eight in
    let packets_on = λ (views : List TmView) (vc : ℕ). without_idle (packets_of_channel views vc) in
    let views = views_from_vc format spacecraft is fits 0 0 lists in
    ap (λ views. map (packets_on views) virtual_channels) (views_are format spacecraft lists is fits due)
    ∙ ext_get_or [] (map (packets_on views) virtual_channels) lists (sym eight)
    (λ vc below.
    let (before, own) = own_channel format spacecraft is fits lists 0 0 vc vc (omega arith) due.each (omega arith) (omega (arith, below)) in
    get_or-map-range_with_len (packets_on views) 0 8 vc vc [] (omega (arith, below)) (omega arith) ∙ ap (λ l. without_idle (packets_delivered (deliveries_of l))) own
    ∙ channel_delivers format spacecraft vc before (slice_index_or lists vc []) is fits (omega (arith, below)) (each-at (AllByRecursion IsDeliverable) lists vc [] tt due.each))
