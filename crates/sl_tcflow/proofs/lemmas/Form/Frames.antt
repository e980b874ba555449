-- The frames of the normal form, as they are read back, virtual channel by virtual channel, and accepted.
use Rattle.std.proofs.Common.{◌≡◌, ℕ, zero, suc, ◌+◌, ◌*◌, ◌%◌, ◌<◌, ◌≤◌, Bool, true, false, List, [], ◌∷◌, ◌++◌, length, take, drop, flat_map, refl, sym, ◌∙◌, ap, subst, arith, length-append, length-take}
use Rattle.std.specs.List.{AllByRecursion, range_with_len, slice_index_or}
use Rattle.std.proofs.lemmas.List.Elements.{filter_map-append}
use Rattle.sl_fields.specs.SegmentHeader.{SegmentFields}
use Rattle.sl_fields.proofs.FecfLemmas.{fecf_len_le}
use Rattle.sl_fields.proofs.Octets.{length-octets_of}
use Rattle.sl_cop.specs.declared.farm_event.FarmEvent.TheVariants as event
use Rattle.sl_cop.specs.declared.verdict.Verdict.TheVariants.{Accept}
use Rattle.sl_cop.specs.Accepted.{accepted_by}
use Rattle.sl_cop.specs.Farm.{area_of, distance, farm_start, farm_step, state_in, verdict_in, verdicts_of}
use Rattle.sl_packet.specs.Delivered.{IsDeliverable}
use Rattle.sl_tcframe.specs.AdFrame.{FitAdFrame, plain_room_of, segment_room_of, ad_frame}
use Rattle.sl_tcframe.specs.TcFrame.{TcFormat, TcView, Ad, is_cut}
use Rattle.sl_tcframe.specs.VcSet.{has_vc}
use Rattle.sl_tcframe.proofs.AdFrameLemmas.{ad_frame_back, ad_frame_cut, length-ad_frame, within}
use Rattle.sl_tcflow.specs.AcceptedUnit.{views_of, views_on, events_of, unit_of, unit_by, accepted_units}
use Rattle.sl_tcflow.specs.FormDelivery.{AreDeliverable, IsFormat}
use Rattle.sl_tcflow.specs.Fits.{FitsOn, FitsTc}
use Rattle.sl_tcflow.specs.TcNormalForm.{units_of_maps, frames_of_units, vc_frames, tc_frames_form}
use Rattle.sl_fields.proofs.ListLemmas.{each-at, each-both, each-map, each-weaker}
use Rattle.sl_tcflow.proofs.lemmas.Each.{each-flat_map_range, own_part}
use Rattle.sl_tcflow.proofs.lemmas.Series.Part.{packet_size}
use Rattle.sl_tcflow.proofs.lemmas.Form.Plain.{first_on, others_empty}
use Rattle.sl_tcflow.proofs.lemmas.Series.Segment.{CanBeFramed, maps_parts, segments_of_maps, unit_made, units_are_packets, units_are_segments}

-- ---- FARM-1

not_ahead : (vr : ℕ) → vr < 256 → distance vr vr ≡ 0
not_ahead vr small = omega arith

-- the expected frame is accepted, for every window
expected : (w vr : ℕ) → vr < 256 → farm_step w (farm_start vr) (event.Ad vr) ≡ (Accept, farm_start ((vr + 1) % 256))
expected w vr small = ap (λ d. (verdict_in (area_of w d), state_in (area_of w d) (farm_start vr))) (not_ahead vr small)

-- the views of frames of type AD of these units, with N(S) from `ns` on
abbrev pub views_from : ℕ → ℕ → List (List ℕ) → List TcView
views_from vc ns [] = []
views_from vc ns (unit ∷ units) = record { vc = vc; content = Ad (ns % 256) unit } ∷ views_from vc (ns + 1) units

pub on_channel : (vc ns : ℕ) (units : List (List ℕ)) → AllByRecursion (λ (view : TcView). view.vc ≡ vc) (views_from vc ns units)
on_channel vc ns [] = tt
on_channel vc ns (unit ∷ units) = (refl, on_channel vc (ns + 1) units)

-- frames with N(S) from V(R) on are all accepted
pub all_accepted : (w vc ns vr : ℕ) (units : List (List ℕ)) → vr < 256 → ns % 256 ≡ vr → accepted_units w vr (views_from vc ns units) ≡ units
all_accepted w vc ns vr [] small same = refl
all_accepted w vc ns vr (unit ∷ units) small same =
    let later = views_from vc (ns + 1) units in
    let next = (vr + 1) % 256 in
    let step : farm_step w (farm_start vr) (event.Ad (ns % 256)) ≡ (Accept, farm_start next) =
    ap (λ n. farm_step w (farm_start vr) (event.Ad n)) same ∙ expected w vr small in
    ap (λ s. unit_by s.0 (Ad (ns % 256) unit) ++ accepted_by (λ (view : TcView). unit_of view.content) (verdicts_of w s.1 (events_of later)) later) step
    ∙ ap (λ l. unit ∷ l) (all_accepted w vc (ns + 1) next units (omega arith) (omega (arith, same)))

-- ---- the units of a virtual channel

-- the 64 lists of packets of a virtual channel, among those of all channels
abbrev pub lists_on : List (List (List ℕ)) → ℕ → List (List (List ℕ))
lists_on lists vc = take 64 (drop (64 * vc) lists)

-- a unit that a frame can have
abbrev pub IsUnit : TcFormat → List ℕ → Type 0
IsUnit format unit = (0 < length unit) × (length unit ≤ plain_room_of format)

module _ (format : TcFormat) (spacecraft : ℕ) (is : IsFormat format) (known : spacecraft ≤ 1023) where
  pub some_room : 0 < segment_room_of format
  some_room = let least = is.least in omega (arith, fecf_len_le format.fecf)

  segment_is_unit : (segment : SegmentFields × List ℕ) → CanBeFramed (segment_room_of format) (λ m. 0 ≤ m) segment → IsUnit format (unit_made segment)
  segment_is_unit segment s = grind (arith, length-append, length-octets_of, fecf_len_le)

  -- the lists of a virtual channel have units that frames can have
  pub are_units : (lists : List (List (List ℕ))) (vc : ℕ) (b : Bool) → AllByRecursion (AllByRecursion IsDeliverable) lists → (b ≡ true → FitsOn format lists vc)
      → AllByRecursion (IsUnit format) (units_of_maps b (segment_room_of format) 0 (lists_on lists vc))
  are_units lists vc false each fits =
      subst (AllByRecursion (IsUnit format)) (sym (units_are_segments (segment_room_of format) 0 (lists_on lists vc)))
      (each-map (IsUnit format) unit_made (segments_of_maps (segment_room_of format) 0 (lists_on lists vc))
      (each-weaker (CanBeFramed (segment_room_of format) (λ m. 0 ≤ m)) (λ segment. IsUnit format (unit_made segment)) segment_is_unit (segments_of_maps (segment_room_of format) 0 (lists_on lists vc))
      (maps_parts (segment_room_of format) 0 (lists_on lists vc) (omega (arith, length-take 64 (drop (64 * vc) lists))))))
  are_units lists vc true each fits =
      let packets = slice_index_or lists (64 * vc) [] in
      subst (AllByRecursion (IsUnit format)) (sym (units_are_packets (segment_room_of format) 0 (lists_on lists vc) (others_empty format lists vc (fits refl)) ∙ first_on lists vc))
      (each-both IsDeliverable (λ packet. length packet ≤ plain_room_of format) (IsUnit format) (λ packet due short. ((packet_size packet due.0).0, short)) packets
      (each-at (AllByRecursion IsDeliverable) lists (64 * vc) [] tt each) (fits refl).short)

  -- ---- frames

  fits_frame : (vc ns : ℕ) (unit : List ℕ) → vc ≤ 63 → ns < 256 → IsUnit format unit → FitAdFrame format spacecraft vc ns unit
  fits_frame vc ns unit below small s = grind arith

  -- a property of each frame that fits holds for all frames
  each_of_units : (P : List ℕ → Type 0)
      → ((vc ns : ℕ) (unit : List ℕ) → FitAdFrame format spacecraft vc ns unit → P (ad_frame format spacecraft vc ns unit))
      → (vc ns : ℕ) (units : List (List ℕ)) → vc ≤ 63 → AllByRecursion (IsUnit format) units
      → AllByRecursion P (frames_of_units format spacecraft vc ns units)
  each_of_units P each vc ns [] below all = tt
  each_of_units P each vc ns (unit ∷ units) below all = grind (arith, fits_frame, each_of_units P each vc (ns + 1) units below all.1)

  views_back : (vc ns : ℕ) (units : List (List ℕ)) → vc ≤ 63 → AllByRecursion (IsUnit format) units
      → views_of format spacecraft (frames_of_units format spacecraft vc ns units) ≡ views_from vc ns units
  views_back vc ns [] below all = refl
  views_back vc ns (unit ∷ units) below all = grind (arith, ad_frame_back, fits_frame, views_back vc (ns + 1) units below all.1)

  -- ---- the virtual channels

  module _ (starts plain : List ℕ) (lists : List (List (List ℕ))) (are : AreDeliverable lists) (fits : FitsTc format plain lists) where
    abbrev start : ℕ → ℕ
    start vc = slice_index_or starts vc 0

    abbrev pub units_on : ℕ → List (List ℕ)
    units_on vc = units_of_maps (has_vc plain vc) (segment_room_of format) 0 (lists_on lists vc)

    abbrev frames_on : ℕ → List (List ℕ)
    frames_on vc = vc_frames format spacecraft (has_vc plain vc) (start vc) vc (lists_on lists vc)

    each_unit : (vc : ℕ) → vc < 64 → AllByRecursion (IsUnit format) (units_on vc)
    each_unit vc below = are_units lists vc (has_vc plain vc) are.each (fits vc below)

    pub each_on : (P : List ℕ → Type 0)
        → ((vc ns : ℕ) (unit : List ℕ) → FitAdFrame format spacecraft vc ns unit → P (ad_frame format spacecraft vc ns unit))
        → AllByRecursion P (tc_frames_form format spacecraft starts plain lists)
    each_on P each =
        each-flat_map_range P frames_on 0 64 (λ vc below. each_of_units P each vc (start vc) (units_on vc) (omega arith) (each_unit vc (omega arith)))

    pub form_cut : AllByRecursion (λ frame. is_cut format frame ≡ true) (tc_frames_form format spacecraft starts plain lists)
    form_cut = each_on (λ frame. is_cut format frame ≡ true) (λ vc ns unit fit. ad_frame_cut format spacecraft vc ns unit fit)

    pub form_within : AllByRecursion (λ frame. length frame ≤ format.max) (tc_frames_form format spacecraft starts plain lists)
    form_within =
        each_on (λ frame. length frame ≤ format.max)
        (λ vc ns unit fit. omega (arith, length-ad_frame format spacecraft vc ns unit fit, within format spacecraft vc ns unit fit))

    pub views_by : (from n : ℕ) → from + n ≤ 64
        → views_of format spacecraft (flat_map frames_on (range_with_len from n)) ≡ flat_map (λ vc. views_from vc (start vc) (units_on vc)) (range_with_len from n)
    views_by from zero below = refl
    views_by from (suc n) below = grind (arith, filter_map-append, views_back, each_unit, views_by (from + 1) n (omega arith))

    -- the frames of a virtual channel are read as those of its units
    pub channel_back : (vc : ℕ) → vc < 64 → views_on vc (views_of format spacecraft (tc_frames_form format spacecraft starts plain lists)) ≡ views_from vc (start vc) (units_on vc)
    channel_back vc below =
        ap (views_on vc) (views_by 0 64 (omega arith))
        ∙ own_part (λ (view : TcView). view.vc) (λ i. views_from i (start i) (units_on i)) (λ i. on_channel i (start i) (units_on i)) vc 0 64 (omega arith) below
