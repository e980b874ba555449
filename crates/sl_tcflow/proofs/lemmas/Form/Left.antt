-- The octets of the normal form that are still to come, packet by packet and channel by channel.
use Rattle.std.proofs.Common.{◌≡◌, ℕ, zero, suc, ◌+◌, ◌-◌, ◌*◌, ◌/◌, ◌%◌, ◌<◌, ◌≤◌, ◌==◌, Bool, true, if◌then◌else◌, List, [], ◌∷◌, ◌++◌, length, map, take, drop, flat_map, inl, inr, refl, sym, subst, ◌∙◌, ap, ap₂, arith, append_assoc, append-nil, length-append, ne_eqb}
use Rattle.std.proofs.lemmas.Grind.{common_steps}
use Rattle.std.specs.List.{AllByRecursion, concat, slice_index_or}
use Rattle.std.specs.Vec.{vec_items}
use Rattle.std.proofs.lemmas.Bool.Decides.{eqb_tells, leb_tells}
use Rattle.std.proofs.lemmas.List.{drop_all, drop_more, drop-drop, get_or-drop, get_or_past, length-map}
use Rattle.std.proofs.lemmas.List.Elements.{All-from_recursion}
use Rattle.std.proofs.lemmas.List.Folds.{concat-append}
use Rattle.std.proofs.lemmas.List.FromFn.{length-map-range_with_len}
use Rattle.std.proofs.Math.Seq.{take-nil}
use Rattle.sl_fields.proofs.FecfLemmas.{length-with_fecf}
use Rattle.sl_fields.proofs.Octets.{length-octets_of}
use Rattle.sl_packet.specs.Delivered.{PacketLists, channel_count, list_at}
use Rattle.sl_tcframe.specs.AdFrame.{segment_room_of, ad_frame, plain_room_of}
use Rattle.sl_tcframe.specs.TcFrame.{TcFormat}
use Rattle.sl_tcframe.specs.VcSet.{has_vc}
use Rattle.sl_tcflow.specs.Fits.{FitsOn}
use Rattle.sl_tcflow.specs.Form.{IsPlace, vcs_left, form_left, maps_left, ns_after, piece_of, AddsPieceTc}
use Rattle.sl_tcflow.specs.FormModel.{IsTcForm, octets_to_come}
use Rattle.sl_tcflow.specs.declared.form.TcForm.TheInside.{Inside}
use Rattle.sl_tcflow.specs.TcNormalForm.{units_of_packet, units_of_maps, frames_of_units, tc_normal_form_of}
use Rattle.sl_tcflow.proofs.lemmas.Series.Part.{some_parts}
use Rattle.sl_tcflow.proofs.lemmas.Form.Pushed.{frames_from_same, frames_from-append}

-- the MAPs from one on are this one and those after it
split_maps : (b : Bool) (room map_id n : ℕ) (lists : List (List (List ℕ)))
    → units_of_maps b room map_id (take (suc n) lists) ≡ flat_map (units_of_packet b room map_id) (slice_index_or lists 0 []) ++ units_of_maps b room (map_id + 1) (take n (drop 1 lists))
split_maps b room map_id n lists = grind (arith, take-nil)

module _ (format : TcFormat) (spacecraft : ℕ) (starts plain : List ℕ) (lists : List (List (List ℕ))) where
  abbrev room : ℕ
  room = segment_room_of format

  abbrev list : ℕ → List (List ℕ)
  list channel = slice_index_or lists channel []

  abbrev left : ℕ → ℕ → ℕ → List ℕ
  left = form_left format spacecraft starts plain lists

  -- whether a virtual channel has no segment headers, and its initial V(R)
  abbrev no_headers : ℕ → Bool
  no_headers vc = has_vc plain vc

  abbrev start : ℕ → ℕ
  start vc = slice_index_or starts vc 0

  abbrev on_maps : ℕ → ℕ → ℕ → List (List ℕ) → List (List (List ℕ)) → List ℕ
  on_maps vc = maps_left format spacecraft (no_headers vc) vc

  abbrev on_channels : ℕ → ℕ → List ℕ
  on_channels = vcs_left format spacecraft starts plain lists

  -- the octets to come, by virtual channel and MAP
  left_is : (vc map_id channel framed ns : ℕ) → map_id < 64 → channel ≡ 64 * vc + map_id
      → left channel framed ns ≡ on_maps vc map_id ns (drop framed (list channel)) (take (63 - map_id) (drop (channel + 1) lists)) ++ on_channels (vc + 1) (63 - vc)
  unfolding form_left
  left_is vc map_id channel framed ns small is = grind arith

  -- the lists from a channel on are the channel's own and those after it
  first_list : (channel : ℕ) → slice_index_or (drop channel lists) 0 [] ≡ list channel
  first_list channel = grind (arith, get_or-drop)

  later_lists : (channel : ℕ) → drop 1 (drop channel lists) ≡ drop (channel + 1) lists
  later_lists channel = drop-drop 1 channel lists

  -- the next virtual channel
  next_vc_left : (vc n channel : ℕ) → 64 * vc ≡ channel
      → on_channels vc (suc n) ≡ on_maps vc 0 (start vc) (list channel) (take 63 (drop (channel + 1) lists)) ++ on_channels (vc + 1) n
  next_vc_left vc n channel is = grind (arith, common_steps, concat-append, split_maps, first_list, later_lists)

  pub all_left : left 0 0 (start 0) ≡ tc_normal_form_of format spacecraft starts plain lists
  all_left = left_is 0 0 0 0 (start 0) (omega arith) (omega arith) ∙ sym (next_vc_left 0 63 0 (omega arith))

  -- ---- channels whose packets are all framed

  -- where a channel's packets are all framed, the octets to come are those from the next MAP on
  to_next_map : (vc map_id channel framed ns : ℕ) → map_id < 63 → channel ≡ 64 * vc + map_id → length (list channel) ≤ framed → left channel framed ns ≡ left (channel + 1) 0 ns
  to_next_map vc map_id channel framed ns small is all =
      let b = no_headers vc in
      let rest = on_channels (vc + 1) (63 - vc) in
      let one : 63 - map_id ≡ suc (62 - map_id) = omega (arith, small) in
      let few : 62 - map_id ≡ 63 - (map_id + 1) = omega arith in
      left_is vc map_id channel framed ns (omega (arith, small)) is
      ∙ ap (λ ps. on_maps vc map_id ns ps (take (63 - map_id) (drop (channel + 1) lists)) ++ rest) (drop_all framed (list channel) all)
      ∙ ap (λ l. concat (frames_of_units format spacecraft vc ns l) ++ rest)
      (ap (λ n. units_of_maps b room (map_id + 1) (take n (drop (channel + 1) lists))) one
      ∙ split_maps b room (map_id + 1) (62 - map_id) (drop (channel + 1) lists)
      ∙ ap₂ (λ ps ls. flat_map (units_of_packet b room (map_id + 1)) ps ++ units_of_maps b room (map_id + 1 + 1) (take (62 - map_id) ls)) (first_list (channel + 1)) (later_lists (channel + 1))
      ∙ ap (λ n. flat_map (units_of_packet b room (map_id + 1)) (list (channel + 1)) ++ units_of_maps b room (map_id + 1 + 1) (take n (drop (channel + 1 + 1) lists))) few)
      ∙ sym (left_is vc (map_id + 1) (channel + 1) 0 ns (omega (arith, small)) (omega (arith, is)))

  -- where the last MAP's packets are all framed, the octets to come are those of the next virtual channels
  after_last_map : (vc channel framed ns : ℕ) → channel ≡ 64 * vc + 63 → length (list channel) ≤ framed → left channel framed ns ≡ on_channels (vc + 1) (63 - vc)
  after_last_map vc channel framed ns is all =
      left_is vc 63 channel framed ns (omega arith) is
      ∙ ap (λ ps. on_maps vc 63 ns ps (take 0 (drop (channel + 1) lists)) ++ on_channels (vc + 1) (63 - vc)) (drop_all framed (list channel) all)

  to_next_vc : (vc channel framed ns : ℕ) → vc < 63 → channel ≡ 64 * vc + 63 → length (list channel) ≤ framed → left channel framed ns ≡ left (channel + 1) 0 (start (vc + 1))
  to_next_vc vc channel framed ns small is all =
      let one : 63 - vc ≡ suc (62 - vc) = omega (arith, small) in
      let few : 62 - vc ≡ 63 - (vc + 1) = omega arith in
      after_last_map vc channel framed ns is all
      ∙ ap (on_channels (vc + 1)) one
      ∙ next_vc_left (vc + 1) (62 - vc) (channel + 1) (omega (arith, is))
      ∙ ap (λ n. on_maps (vc + 1) 0 (start (vc + 1)) (list (channel + 1)) (take 63 (drop (channel + 1 + 1) lists)) ++ on_channels (vc + 1 + 1) n) few
      ∙ sym (left_is (vc + 1) 0 (channel + 1) 0 (start (vc + 1)) (omega arith) (omega (arith, is)))

  -- after the last channel no octets are to come
  pub none_left : (channel framed ns : ℕ) → channel ≡ channel_count → length lists ≡ channel_count → left channel framed ns ≡ []
  none_left channel framed ns is all =
      let here : list channel ≡ [] = get_or_past lists channel [] (omega (arith, is, all)) in
      let later : drop (channel + 1) lists ≡ [] = drop_all (channel + 1) lists (omega (arith, is, all)) in
      let packets : drop framed (list channel) ≡ [] = drop_all framed (list channel) (omega (arith, ap length here)) in
      left_is 64 0 channel framed ns (omega arith) (omega (arith, is))
      ∙ ap₂ (λ ps ls. on_maps 64 0 ns ps (take 63 ls) ++ on_channels 65 0) packets later

  to_end : (channel framed ns ns' : ℕ) → channel + 1 ≡ channel_count → length lists ≡ channel_count → length (list channel) ≤ framed → left channel framed ns ≡ left (channel + 1) 0 ns'
  to_end channel framed ns ns' is size all =
      after_last_map 63 channel framed ns (omega (arith, is)) all ∙ sym (none_left (channel + 1) 0 ns' (omega (arith, is)) size)

  -- the N(S) of the first frame on a channel, after the frames of another channel
  abbrev number : ℕ → ℕ → ℕ → ℕ
  number channel next ns = if next / 64 == channel / 64 then ns else start (next / 64)

  to_next : (channel framed ns : ℕ) → channel < channel_count → length lists ≡ channel_count → length (list channel) ≤ framed → left channel framed ns ≡ left (channel + 1) 0 (number channel (channel + 1) ns)
  to_next channel framed ns inside size all =
      let vc = channel / 64 in
      elim (eqb_tells ((channel + 1) / 64) (channel / 64)) [
        | inl (test, same) ↦
            to_next_map vc (channel % 64) channel framed ns (omega (arith, same)) (omega arith) all
            ∙ ap (λ t. left (channel + 1) 0 (if t then ns else start ((channel + 1) / 64))) (sym test)
        | inr (test, other) ↦
            elim (eqb_tells (channel + 1) channel_count) [
              | inl (last_test, last) ↦ to_end channel framed ns (number channel (channel + 1) ns) last size all
              | inr (last_test, before) ↦
                  let next_vc : vc + 1 ≡ (channel + 1) / 64 = omega (arith, other) in
                  to_next_vc vc channel framed ns (omega (arith, other, before, inside)) (omega (arith, other)) all
                  ∙ ap (λ v. left (channel + 1) 0 (start v)) next_vc
                  ∙ ap (λ t. left (channel + 1) 0 (if t then ns else start ((channel + 1) / 64))) (sym test)
            ]
      ]

  number_on : (channel between next ns : ℕ) → channel ≤ between → between ≤ next → number between next (number channel between ns) ≡ number channel next ns
  number_on channel between next ns a b = grind (arith, eqb_tells, ne_eqb)

  -- the octets to come are those from the next channel with packets on
  pub to_later : (k channel next framed ns : ℕ) → next ≡ channel + 1 + k → next ≤ channel_count → length lists ≡ channel_count → length (list channel) ≤ framed
      → ((other : ℕ) → channel + 1 ≤ other → other < next → list other ≡ [])
      → left channel framed ns ≡ left next 0 (number channel next ns)
  to_later zero channel next framed ns is inside size all none =
      let same : channel + 1 ≡ next = omega (arith, is) in
      to_next channel framed ns (omega (arith, is, inside)) size all ∙ ap (λ n. left n 0 (number channel n ns)) same
  to_later (suc k) channel next framed ns is inside size all none =
      let between = channel + 1 + k in
      let same : between + 1 ≡ next = omega (arith, is) in
      let empty : list between ≡ [] = none between (omega arith) (omega (arith, is)) in
      to_later k channel between framed ns refl (omega (arith, is, inside)) size all (λ other above below. none other above (omega (arith, is, below)))
      ∙ to_next between 0 (number channel between ns) (omega (arith, is, inside)) size (omega (arith, ap length empty))
      ∙ ap (λ n. left n 0 (number between n (number channel between ns))) same
      ∙ ap (left next 0) (number_on channel between next ns (omega arith) (omega (arith, is)))

  pub to_packet : (channel next framed ns : ℕ) (test : Bool) → (next / 64 == channel / 64) ≡ test → channel < next → next ≤ channel_count → length lists ≡ channel_count
      → length (list channel) ≤ framed → ((other : ℕ) → channel + 1 ≤ other → other < next → list other ≡ [])
      → left channel framed ns ≡ left next 0 (if test then ns else start (next / 64))
  to_packet channel next framed ns test is after inside size all none =
      to_later (next - (channel + 1)) channel next framed ns (omega (arith, after)) inside size all none
      ∙ ap (λ b. left next 0 (if b then ns else start (next / 64))) is

  -- where no later channel has packets, no octets are to come
  pub to_none : (channel framed ns ns' : ℕ) → channel < channel_count → length lists ≡ channel_count → length (list channel) ≤ framed
      → ((other : ℕ) → channel + 1 ≤ other → other < channel_count → list other ≡ []) → left channel framed ns ≡ left channel_count 0 ns'
  to_none channel framed ns ns' inside size all none =
      to_later (channel_count - (channel + 1)) channel channel_count framed ns (omega (arith, inside)) (omega arith) size all none
      ∙ none_left channel_count 0 (number channel channel_count ns) (omega arith) size ∙ sym (none_left channel_count 0 ns' (omega arith) size)

  -- a form of no packets
  pub none_at_all : length lists ≡ channel_count → ((channel : ℕ) → 0 ≤ channel → channel < channel_count → list channel ≡ []) → tc_normal_form_of format spacecraft starts plain lists ≡ []
  none_at_all size none =
      let first : list 0 ≡ [] = none 0 (omega arith) (omega arith) in
      sym all_left
      ∙ to_none 0 0 (start 0) 0 (omega arith) size (omega (arith, ap length first)) (λ other above below. none other (omega arith) below)
      ∙ none_left channel_count 0 0 (omega arith) size

  -- ---- a packet

  piece_made : (vc map_id channel framed ns next : ℕ) (packet : List ℕ) → map_id < 64 → channel ≡ 64 * vc + map_id → framed < length (list channel)
      → packet ≡ slice_index_or (list channel) framed [] → next ≡ (ns + length (units_of_packet (no_headers vc) room map_id packet)) % 256
      → left channel framed ns ≡ concat (frames_of_units format spacecraft vc ns (units_of_packet (no_headers vc) room map_id packet)) ++ left channel (framed + 1) next
  piece_made vc map_id channel framed ns next packet small is inside here number_is =
      let b = no_headers vc in
      let units = units_of_packet b room map_id packet in
      let later = take (63 - map_id) (drop (channel + 1) lists) in
      let rest = on_channels (vc + 1) (63 - vc) in
      let packets = drop (framed + 1) (list channel) in
      let more = flat_map (units_of_packet b room map_id) packets ++ units_of_maps b room (map_id + 1) later in
      let frames : ℕ → List (List ℕ) → List (List ℕ) = frames_of_units format spacecraft vc in
      let counted : (ns + length units) % 256 ≡ next % 256 = omega (arith, number_is) in
      left_is vc map_id channel framed ns small is
      ∙ ap (λ ps. on_maps vc map_id ns ps later ++ rest) (drop_more (list channel) framed [] inside ∙ ap (λ p. p ∷ packets) (sym here))
      ∙ ap (λ l. concat (frames ns l) ++ rest) (append_assoc units (flat_map (units_of_packet b room map_id) packets) (units_of_maps b room (map_id + 1) later))
      ∙ ap (λ l. concat l ++ rest)
      (frames_from-append format spacecraft vc ns units more ∙ ap (λ l. frames ns units ++ l) (frames_from_same format spacecraft vc (ns + length units) next more counted))
      ∙ ap (λ l. l ++ rest) (concat-append (frames ns units) (frames next more))
      ∙ append_assoc (concat (frames ns units)) (concat (frames next more)) rest
      ∙ ap (λ l. concat (frames ns units) ++ l) (sym (left_is vc map_id channel (framed + 1) next small is))

  pub piece_first : (b : Bool) (channel framed ns next : ℕ) (packet : List ℕ) → b ≡ no_headers (channel / 64) → framed < length (list channel)
      → packet ≡ slice_index_or (list channel) framed [] → next ≡ ns_after format b channel ns packet
      → left channel framed ns ≡ piece_of format spacecraft b channel ns packet ++ left channel (framed + 1) next
  piece_first b channel framed ns next packet headers inside here next_is = grind (arith, piece_made)

-- ---- the octets of a piece

module _ (format : TcFormat) (spacecraft : ℕ) where
  frame_some : (vc ns : ℕ) (unit : List ℕ) → 0 < length (ad_frame format spacecraft vc ns unit)
  frame_some vc ns unit = grind (arith, length-with_fecf, length-append, length-octets_of)

  frames_some : (vc ns : ℕ) (units : List (List ℕ)) → 0 < length units → 0 < length (concat (frames_of_units format spacecraft vc ns units))
  frames_some vc ns [] some = absurd (omega arith)
  frames_some vc ns (unit ∷ units) some = grind (arith, length-append, frame_some)

  some_units : (b : Bool) (room map_id : ℕ) (packet : List ℕ) → 0 < room → 0 < length packet → 0 < length (units_of_packet b room map_id packet)
  some_units b room map_id packet wide long = grind (arith, some_parts, length-map-range_with_len)

  pub piece_some : (b : Bool) (channel ns : ℕ) (packet : List ℕ) → 0 < segment_room_of format → 0 < length packet → 0 < length (piece_of format spacecraft b channel ns packet)
  piece_some b channel ns packet wide long = grind (arith, frames_some, some_units)

  -- where there are no segment headers, the piece is one frame
  pub piece_whole : (b : Bool) (channel ns : ℕ) (packet : List ℕ) → b ≡ true → ns < 256
      → piece_of format spacecraft b channel ns packet ≡ ad_frame format spacecraft (channel / 64) ns packet
  piece_whole b channel ns packet is small = grind (arith, append-nil)

-- ---- places and pieces

-- the place after all packets
pub no_packet : (d : PacketLists) (channel framed : ℕ) → IsPlace d channel framed → length (list_at d channel) ≤ framed → channel ≡ channel_count
no_packet d channel framed place past = grind (arith, leb_tells)

-- a packet that is left lies in the list of its channel, which is one of the channels,
pub is_inside : (f : Inside) → IsTcForm f → f.place.framed < length f.packets.now → f.place.framed < length (list_at f.delivered.now f.place.channel)
is_inside f is within = omega (arith, within, length-map f.packets.now vec_items, ap length is.packets)

pub is_channel : (f : Inside) → IsTcForm f → f.place.framed < length f.packets.now → f.place.channel < channel_count
is_channel f is within =
    elim (eqb_tells f.place.channel channel_count) [
      | inl (test, last) ↦ absurd (omega (arith, is_inside f is within, ap length (get_or_past f.delivered.now.lists f.place.channel [] (omega (arith, last, is.channels)))))
      | inr (test, other) ↦ omega (arith, other, is.place.inside)
    ]

-- and its frames come first
pub packet_first : (f : Inside) → IsTcForm f → f.place.framed < length f.packets.now → (b : Bool) (next : ℕ) (packet : List ℕ) → b ≡ has_vc f.plain (f.place.channel / 64)
    → packet ≡ slice_index_or (map vec_items f.packets.now) f.place.framed [] → next ≡ ns_after f.shape b f.place.channel f.place.ns packet
    → octets_to_come f
    ≡ piece_of f.shape f.spacecraft b f.place.channel f.place.ns packet ++ form_left f.shape f.spacecraft f.starts f.plain f.delivered.now.lists f.place.channel (f.place.framed + 1) next
packet_first f is within b next packet headers here =
    piece_first f.shape f.spacecraft f.starts f.plain f.delivered.now.lists b f.place.channel f.place.framed f.place.ns next packet headers (is_inside f is within)
    (here ∙ ap (λ l. slice_index_or l f.place.framed []) is.packets)

-- where frames have no segment headers, it fits into a frame
pub fits_in_frame : (f : Inside) → IsTcForm f → f.place.framed < length f.packets.now → (packet : List ℕ) → has_vc f.plain (f.place.channel / 64) ≡ true
    → packet ≡ slice_index_or (map vec_items f.packets.now) f.place.framed [] → length packet ≤ plain_room_of f.shape
fits_in_frame f is within packet plain here =
    let lists = f.delivered.now.lists in
    let channel = f.place.channel in
    let inside = is_inside f is within in
    let short = λ (p : List ℕ). length p ≤ plain_room_of f.shape in
    let fit : FitsOn f.shape lists (channel / 64) = is.fits (channel / 64) (omega (arith, is_channel f is within)) plain in
    elim (eqb_tells (channel % 64) 0) [
      | inl (test, first) ↦
          let own : 64 * (channel / 64) ≡ channel = omega (arith, first) in
          subst short (sym (here ∙ ap (λ l. slice_index_or l f.place.framed []) is.packets))
          (All-from_recursion short (slice_index_or lists channel []) (subst (λ n. AllByRecursion short (slice_index_or lists n [])) own fit.short) f.place.framed [] inside)
      | inr (test, other) ↦
          let own : 64 * (channel / 64) + channel % 64 ≡ channel = omega arith in
          absurd (omega (arith, inside, ap length (subst (λ n. slice_index_or lists n [] ≡ []) own (fit.others (channel % 64) (omega (arith, other)) (omega arith)))))
    ]

-- the octets that are made and those to come are one form
pub piece_moved : (left made left' made' form : List ℕ) → made ++ left ≡ form → AddsPieceTc left made left' made' → made' ++ left' ≡ form
piece_moved left made left' made' form all adds = grind (arith, append_assoc)

pub left_shorter : (left made left' made' : List ℕ) → AddsPieceTc left made left' made' → length left' < length left
left_shorter left made left' made' adds = grind (arith, length-append)

pub none_after : (made left : List ℕ) → made ++ left ≡ [] → left ≡ []
none_after [] left none = none
none_after (octet ∷ made) left none = absurd (cc)
