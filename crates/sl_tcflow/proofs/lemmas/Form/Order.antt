-- The order of the frames of the normal form.
use Rattle.std.proofs.Common.{◌≡◌, ℕ, zero, suc, ◌+◌, ◌*◌, ◌%◌, ◌<◌, ◌≤◌, Bool, true, false, List, [], ◌∷◌, ◌++◌, length, take, drop, map, flat_map, refl, sym, ◌∙◌, ap, subst, arith, length-take}
use Rattle.std.proofs.lemmas.Grind.{common_steps}
use Rattle.std.specs.List.{AllByRecursion, range_with_len, slice_index_or}
use Rattle.sl_tcframe.specs.AdFrame.{segment_room_of}
use Rattle.sl_tcframe.specs.TcFrame.{TcFormat, TcView, Ad}
use Rattle.sl_tcframe.specs.VcSet.{has_vc}
use Rattle.sl_tcframe.proofs.AdFrameLemmas.{ad_frame_back}
use Rattle.sl_tcflow.specs.AcceptedUnit.{views_on}
use Rattle.sl_tcflow.specs.FormDelivery.{CanBeWritten, IsNotSkipped, NoFrameIsSkipped}
use Rattle.sl_tcflow.specs.FormOrder.{form_views, VcsNeverFall, MapsNeverFall, NsCounts}
use Rattle.sl_tcflow.specs.Receiver.{map_of}
use Rattle.sl_tcflow.specs.Series.{header_at}
use Rattle.sl_tcflow.specs.TcNormalForm.{units_of_maps}
use Rattle.sl_fields.specs.NeverFall.{NeverFall}
use Rattle.sl_fields.proofs.ListLemmas.{each-map, each-weaker}
use Rattle.sl_fields.proofs.NeverFallLemmas.{lower, then_later}
use Rattle.sl_tcflow.proofs.lemmas.Form.Delivery.{views_are}
use Rattle.sl_tcflow.proofs.lemmas.Form.Frames.{channel_back, each_on, on_channel, units_on, views_by, views_from}
use Rattle.sl_tcflow.proofs.lemmas.Series.Segment.{flat_units, map_of_unit, packets_parts, segments_of_packet, unit_made}

pub no_frame_is_skipped : NoFrameIsSkipped
no_frame_is_skipped format spacecraft starts plain lists can =
    each_on format spacecraft can.is_format can.spacecraft_fits starts plain lists can.deliverable can.fit (IsNotSkipped format spacecraft)
    (λ vc ns unit fit. (record { vc = vc; content = Ad ns unit }, ad_frame_back format spacecraft vc ns unit fit))

-- ---- numbers that never fall

module _ {X : Type 0} (f : X → ℕ) where
  by_range : (of : ℕ → List X) → ((i : ℕ) → AllByRecursion (λ x. f x ≡ i) (of i)) → (from n : ℕ) → NeverFall from (map f (flat_map of (range_with_len from n)))
  by_range of each from zero = tt
  by_range of each from (suc n) = grind (arith, then_later, lower, by_range of each (from + 1) n)

-- ---- the MAPs of units

on_one_map : (room map_id : ℕ) (packets : List (List ℕ)) → map_id < 64 → AllByRecursion (λ unit. (header_at unit).map ≡ map_id) (map unit_made (flat_map (segments_of_packet room map_id) packets))
on_one_map room map_id packets small = grind (arith, each-map, each-weaker, map_of_unit, packets_parts)

maps_rise : (room map_id : ℕ) (lists : List (List (List ℕ))) → map_id + length lists ≤ 64 → NeverFall map_id (map (λ unit. (header_at unit).map) (units_of_maps false room map_id lists))
maps_rise room map_id [] few = tt
maps_rise room map_id (packets ∷ lists) few = grind (arith, common_steps, flat_units, then_later, on_one_map, lower, maps_rise room (map_id + 1) lists (omega arith))

-- the MAPs of the frames are those of their units
maps_of_views : (b : Bool) (vc ns : ℕ) (units : List (List ℕ))
    → map (λ (view : TcView). map_of b view.content) (views_from vc ns units) ≡ map (λ unit. map_of b (Ad 0 unit)) units
maps_of_views b vc ns [] = refl
maps_of_views b vc ns (unit ∷ units) = ap (λ l. map_of b (Ad 0 unit) ∷ l) (maps_of_views b vc (ns + 1) units)

-- without segment headers all units are on MAP 0
all_on_none : (units : List (List ℕ)) → NeverFall 0 (map (λ unit. map_of true (Ad 0 unit)) units)
all_on_none [] = tt
all_on_none (unit ∷ units) = (omega arith, all_on_none units)

maps_on : (b : Bool) (room : ℕ) (lists : List (List (List ℕ))) → length lists ≤ 64 → NeverFall 0 (map (λ unit. map_of b (Ad 0 unit)) (units_of_maps b room 0 lists))
maps_on true room lists few = all_on_none (units_of_maps true room 0 lists)
maps_on false room lists few = maps_rise room 0 lists (omega arith)

-- ---- N(S)

-- each frame is of type AD and has the N(S) of its place
unit_has_ns : (vc ns : ℕ) (units : List (List ℕ)) (before later : List TcView) (view : TcView) → views_from vc ns units ≡ before ++ view ∷ later
    → (unit : List ℕ) × (view.content ≡ Ad ((ns + length before) % 256) unit)
unit_has_ns vc ns [] [] later view is = cc
unit_has_ns vc ns [] (other ∷ before) later view is = cc
unit_has_ns vc ns (unit ∷ units) [] later view is =
    let here : TcView = record { vc = vc; content = Ad (ns % 256) unit } in
    let same : view ≡ here = cc in
    (unit, ap (λ (v : TcView). v.content) same ∙ ap (λ n. Ad (n % 256) unit) (omega arith))
unit_has_ns vc ns (unit ∷ units) (other ∷ before) later view is =
    let rest : views_from vc (ns + 1) units ≡ before ++ view ∷ later = cc in
    let (own, content) = unit_has_ns vc (ns + 1) units before later view rest in
    (own, content ∙ ap (λ n. Ad (n % 256) own) (omega arith))

-- ---- all

module _ (format : TcFormat) (spacecraft : ℕ) (starts plain : List ℕ) (lists : List (List (List ℕ))) (can : CanBeWritten format spacecraft plain lists) where
  abbrev pub units : ℕ → List (List ℕ)
  units vc = units_on format spacecraft can.is_format can.spacecraft_fits starts plain lists can.deliverable can.fit vc

pub vcs_never_fall : VcsNeverFall
vcs_never_fall format spacecraft starts plain lists can =
    subst (λ views. NeverFall 0 (map (λ (view : TcView). view.vc) views))
    (sym (views_are format spacecraft starts plain lists can.is_format can.spacecraft_fits can.deliverable can.fit
    ∙ views_by format spacecraft can.is_format can.spacecraft_fits starts plain lists can.deliverable can.fit 0 64 (omega arith)))
    (by_range (λ (view : TcView). view.vc) (λ vc. views_from vc (slice_index_or starts vc 0) (units format spacecraft starts plain lists can vc))
    (λ vc. on_channel vc (slice_index_or starts vc 0) (units format spacecraft starts plain lists can vc)) 0 64)

module _ (format : TcFormat) (spacecraft : ℕ) (starts plain : List ℕ) (lists : List (List (List ℕ))) (can : CanBeWritten format spacecraft plain lists) (vc : ℕ) (inside : vc < 64) where
  -- the frames of a virtual channel, as they are read
  pub own_views : views_on vc (form_views format spacecraft starts plain lists) ≡ views_from vc (slice_index_or starts vc 0) (units format spacecraft starts plain lists can vc)
  own_views =
      ap (views_on vc) (views_are format spacecraft starts plain lists can.is_format can.spacecraft_fits can.deliverable can.fit)
      ∙ channel_back format spacecraft can.is_format can.spacecraft_fits starts plain lists can.deliverable can.fit vc inside

pub maps_never_fall : MapsNeverFall
maps_never_fall format spacecraft starts plain lists can vc inside =
    let own = take 64 (drop (64 * vc) lists) in
    subst (λ views. NeverFall 0 (map (λ (view : TcView). map_of (has_vc plain vc) view.content) views))
    (sym (own_views format spacecraft starts plain lists can vc inside))
    (subst (NeverFall 0) (sym (maps_of_views (has_vc plain vc) vc (slice_index_or starts vc 0) (units format spacecraft starts plain lists can vc)))
    (maps_on (has_vc plain vc) (segment_room_of format) own (omega (arith, length-take 64 (drop (64 * vc) lists)))))

pub ns_counts : NsCounts
ns_counts format spacecraft starts plain lists can vc inside before later view is =
    unit_has_ns vc (slice_index_or starts vc 0) (units format spacecraft starts plain lists can vc) before later view
    (sym (own_views format spacecraft starts plain lists can vc inside) ∙ is)
