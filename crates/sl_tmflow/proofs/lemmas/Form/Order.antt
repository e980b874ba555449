-- The order of the frames of the normal form, their counts, and their data fields.
use Rattle.std.proofs.Common.{◌≡◌, ℕ, zero, suc, ◌+◌, ◌*◌, ◌/◌, ◌%◌, ◌≤◌, List, [], ◌∷◌, ◌++◌, length, take, drop, map, refl, sym, ◌∙◌, ap, subst, arith}
use Rattle.std.specs.Prelude.{⊤}
use Rattle.std.specs.List.{AllByRecursion, concat, range_with_len, slice_index_or}
use Rattle.std.proofs.lemmas.Bool.Decides.{eqb_tells}
use Rattle.std.proofs.lemmas.List.{drop-drop, drop_all, take-append-drop}
use Rattle.std.proofs.lemmas.List.FromFn.{length-map-range_with_len}
use Rattle.std.proofs.lemmas.Simd.{map-map}
use Rattle.std.proofs.Math.Nat.{add-mul, one-mul, zero-mul}
use Rattle.sl_fields.specs.NeverFall.{NeverFall}
use Rattle.sl_fields.proofs.ListLemmas.{each-append, each-at, each-every, each-map}
use Rattle.sl_fields.proofs.NeverFallLemmas.{lower, then_later}
use Rattle.sl_packet.specs.Delivered.{IsDeliverable}
use Rattle.sl_tmframe.specs.PacketFrame.{field_room_of}
use Rattle.sl_tmframe.specs.TmFrame.{TmFormat, TmView}
use Rattle.sl_tmflow.specs.FormDelivery.{IsFormat}
use Rattle.sl_tmflow.specs.VirtualChannel.{views_on, packet_data}
use Rattle.sl_tmflow.specs.FormOrder.{CarriesPackets, ChannelsNeverFall, EachCarriesPackets, McCounts, PacketsLieEndToEnd, VcCounts}
use Rattle.sl_tmflow.specs.NormalForm.{channel_frames, data_field_of, first_of, with_filling}
use Rattle.sl_tmflow.specs.PacketStart.{packet_offsets}
use Rattle.sl_tmflow.proofs.lemmas.Form.Delivery.{channel_of_own, channel_views, filled_size, first_channel, form_parts, views_from_vc, next, other_channel, own_channel, views_are}
use Rattle.sl_tmflow.proofs.lemmas.Form.CutDelivery.{view_at}

-- ---- numbers that count

module _ {X : Type 0} (f : X → ℕ) where
  -- the numbers rise by one from this one on, modulo 256
  abbrev Count : ℕ → List X → Type 0
  Count from [] = ⊤
  Count from (x ∷ xs) = (f x ≡ from % 256) × Count (from + 1) xs

  count_more : (from : ℕ) (xs ys : List X) → Count from xs → Count (from + length xs) ys → Count from (xs ++ ys)
  count_more from [] ys own later =
      let none : from + 0 ≡ from = omega arith in
      subst (λ n. Count n ys) none later
  count_more from (x ∷ xs) ys own later =
      let step : from + suc (length xs) ≡ from + 1 + length xs = omega arith in
      (own.0, count_more (from + 1) xs ys own.1 (subst (λ n. Count n ys) step later))

  count_at : (from : ℕ) (xs before later : List X) (x : X) → Count from xs → xs ≡ before ++ x ∷ later → f x ≡ (from + length before) % 256
  count_at from [] [] later x own is = cc
  count_at from [] (y ∷ before) later x own is = cc
  count_at from (y ∷ xs) [] later x own is =
      let same : x ≡ y = cc in
      let none : from ≡ from + 0 = omega arith in
      ap f same ∙ own.0 ∙ ap (λ n. n % 256) none
  count_at from (y ∷ xs) (z ∷ before) later x own is =
      let rest : xs ≡ before ++ x ∷ later = cc in
      let step : from + 1 + length before ≡ from + suc (length before) = omega arith in
      count_at (from + 1) xs before later x own.1 rest ∙ ap (λ n. n % 256) step

  count_map : (of : ℕ → X) (shift number many : ℕ) → ((n : ℕ) → f (of n) ≡ (shift + n) % 256) → Count (shift + number) (map of (range_with_len number many))
  count_map of shift number zero each = tt
  count_map of shift number (suc many) each = grind (arith, count_map of shift (number + 1) many each)

-- ---- data fields end to end

-- the data fields from this number on are the octets from there on
fields_joined : (room : ℕ) (octets : List ℕ) (from n : ℕ) → length octets ≡ (from + n) * room
    → concat (map (λ number. data_field_of room number octets) (range_with_len from n)) ≡ drop (from * room) octets
fields_joined room octets from zero size =
    let same : from + 0 ≡ from = omega arith in
    sym (drop_all (from * room) octets (omega (arith, size, ap (λ k. k * room) same)))
fields_joined room octets from (suc n) size =
    let index : from + 1 + n ≡ from + suc n = omega arith in
    let next : from * room + room ≡ (from + 1) * room = omega (arith, add-mul from 1 room, one-mul room) in
    ap (λ l. take room (drop (from * room) octets) ++ l) (fields_joined room octets (from + 1) n (size ∙ ap (λ k. k * room) (sym index)))
    ∙ ap (λ l. take room (drop (from * room) octets) ++ l) (sym (drop-drop room (from * room) octets ∙ ap (λ k. drop k octets) next))
    ∙ take-append-drop room (drop (from * room) octets)

-- ---- the frames of a virtual channel

module _ (format : TmFormat) (vc mc : ℕ) (packets : List (List ℕ)) where
  abbrev room : ℕ
  room = field_room_of format

  abbrev filled : List (List ℕ)
  filled = with_filling room packets

  abbrev many : ℕ
  many = length (concat filled) / room

  abbrev own : List TmView
  own = channel_views format vc mc packets

  own_carry : AllByRecursion CarriesPackets own
  own_carry =
      each-map CarriesPackets (view_at room vc mc filled) (range_with_len 0 many)
      (each-every (λ number. CarriesPackets (view_at room vc mc filled number))
      (λ number. record {
        first = first_of room number (packet_offsets 0 filled []);
        octets = data_field_of room number (concat filled);
        field = refl;
        control = refl;
      }) (range_with_len 0 many))

  own_master : Count (λ (view : TmView). view.mc_count) mc own
  own_master = grind (arith, count_map)

  own_count : Count (λ (view : TmView). view.vc_count) 0 own
  own_count =
      count_map (λ (view : TmView). view.vc_count) (view_at room vc mc filled) 0 0 many
      (λ number. let index : number ≡ 0 + number = omega arith in ap (λ n. n % 256) index)

  own_data : IsFormat format → vc ≤ 7 → AllByRecursion IsDeliverable packets → concat (map packet_data own) ≡ concat filled
  own_data is vc_fits each =
      let index : many ≡ 0 + many = omega arith in
      let size : length (concat filled) ≡ (0 + many) * room = filled_size format 0 vc mc packets is (omega arith) vc_fits each ∙ ap (λ n. n * room) index in
      ap concat (map-map packet_data (view_at room vc mc filled) (range_with_len 0 many))
      ∙ fields_joined room (concat filled) 0 many size ∙ ap (λ n. drop n (concat filled)) (zero-mul room)

  as_many : (spacecraft : ℕ) → length own ≡ length (channel_frames format spacecraft vc mc packets)
  as_many spacecraft = grind (arith, length-map-range_with_len)

-- ---- the frames of all virtual channels

module _ (format : TmFormat) (spacecraft : ℕ) (is : IsFormat format) (fits : spacecraft ≤ 1023) where
  abbrev views_by : ℕ → ℕ → List (List (List ℕ)) → List TmView
  views_by vc mc lists = views_from_vc format spacecraft is fits vc mc lists

  all_carry : (lists : List (List (List ℕ))) (vc mc : ℕ) → vc + length lists ≤ 8 → AllByRecursion (AllByRecursion IsDeliverable) lists
      → AllByRecursion CarriesPackets (views_by vc mc lists)
  all_carry [] vc mc inside each = tt
  all_carry (packets ∷ lists) vc mc inside each = grind (arith, form_parts, each-append, own_carry, all_carry lists (vc + 1) (next format spacecraft is fits vc mc packets) (omega (arith, inside)) each.1)

  all_rise : (lists : List (List (List ℕ))) (vc mc : ℕ) → vc + length lists ≤ 8 → AllByRecursion (AllByRecursion IsDeliverable) lists
      → NeverFall vc (map (λ (view : TmView). view.vc) (views_by vc mc lists))
  all_rise [] vc mc inside each = tt
  all_rise (packets ∷ lists) vc mc inside each = grind (arith, form_parts, then_later, channel_of_own, lower, all_rise lists (vc + 1) (next format spacecraft is fits vc mc packets) (omega (arith, inside)) each.1)

  all_master : (lists : List (List (List ℕ))) (vc mc : ℕ) → vc + length lists ≤ 8 → AllByRecursion (AllByRecursion IsDeliverable) lists
      → Count (λ (view : TmView). view.mc_count) mc (views_by vc mc lists)
  all_master [] vc mc inside each = tt
  all_master (packets ∷ lists) vc mc inside each = grind (arith, as_many, form_parts, count_more, own_master, all_master lists (vc + 1) (next format spacecraft is fits vc mc packets) (omega (arith, inside)) each.1)

  all_count : (lists : List (List (List ℕ))) (vc mc v : ℕ) → vc + length lists ≤ 8 → AllByRecursion (AllByRecursion IsDeliverable) lists
      → Count (λ (view : TmView). view.vc_count) 0 (views_on v (views_by vc mc lists))
  all_count [] vc mc v inside each = tt
  all_count (packets ∷ lists) vc mc v inside each = grind (arith, eqb_tells, first_channel, own_count, other_channel, all_count lists (vc + 1) (next format spacecraft is fits vc mc packets) v (omega (arith, inside)) each.1)

-- ---- the laws

pub each_carries_packets : EachCarriesPackets
each_carries_packets format spacecraft lists is fits due =
    subst (AllByRecursion CarriesPackets) (sym (views_are format spacecraft lists is fits due))
    (all_carry format spacecraft is fits lists 0 0 (let eight = due.eight in omega arith) due.each)

pub channels_never_fall : ChannelsNeverFall
channels_never_fall format spacecraft lists is fits due =
    subst (λ views. NeverFall 0 (map (λ (view : TmView). view.vc) views)) (sym (views_are format spacecraft lists is fits due))
    (all_rise format spacecraft is fits lists 0 0 (let eight = due.eight in omega arith) due.each)

pub mc_counts : McCounts
mc_counts format spacecraft lists is fits due before later view at =
    let index : 0 + length before ≡ length before = omega arith in
    count_at (λ (view : TmView). view.mc_count) 0 (views_from_vc format spacecraft is fits 0 0 lists) before later view
    (all_master format spacecraft is fits lists 0 0 (let eight = due.eight in omega arith) due.each) (sym (views_are format spacecraft lists is fits due) ∙ at)
    ∙ ap (λ n. n % 256) index

pub vc_counts : VcCounts
vc_counts format spacecraft lists is fits due vc before later view at =
    let index : 0 + length before ≡ length before = omega arith in
    count_at (λ (view : TmView). view.vc_count) 0 (views_on vc (views_from_vc format spacecraft is fits 0 0 lists)) before later view
    (all_count format spacecraft is fits lists 0 0 vc (let eight = due.eight in omega arith) due.each)
    (ap (views_on vc) (sym (views_are format spacecraft lists is fits due)) ∙ at)
    ∙ ap (λ n. n % 256) index

pub packets_lie_end_to_end : PacketsLieEndToEnd
packets_lie_end_to_end format spacecraft lists is fits due vc below =
    let eight = due.eight in
    let (before, own) = own_channel format spacecraft is fits lists 0 0 vc vc (omega arith) due.each (omega arith) (omega arith) in
    ap (λ views. concat (map packet_data (views_on vc views))) (views_are format spacecraft lists is fits due) ∙ ap (λ l. concat (map packet_data l)) own
    ∙ own_data format vc before (slice_index_or lists vc []) is (omega arith) (each-at (AllByRecursion IsDeliverable) lists vc [] tt due.each)
