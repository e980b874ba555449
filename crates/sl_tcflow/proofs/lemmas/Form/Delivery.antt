-- The normal form of packets is a recording that delivers these packets and no others.
use Rattle.std.proofs.Common.{◌≡◌, ℕ, ◌+◌, ◌*◌, ◌/◌, ◌%◌, ◌<◌, ◌≤◌, List, [], length, drop, take, map, sym, ◌∙◌, ap, arith, append-nil, length-drop}
use Rattle.std.specs.List.{AllByRecursion, slice_index_or}
use Rattle.std.proofs.lemmas.List.FromFn.{fill_by_all}
use Rattle.sl_cop.specs.Starts.{AreStarts}
use Rattle.sl_packet.specs.Delivered.{IsDeliverable, channel_count}
use Rattle.sl_packet.specs.Packet.{IsPacket}
use Rattle.sl_packet.specs.Packets.{without_idle}
use Rattle.sl_tcframe.specs.AdFrame.{segment_room_of}
use Rattle.sl_tcframe.specs.TcFrame.{TcFormat}
use Rattle.sl_tcframe.proofs.DelimitedLemmas.{delimited_once}
use Rattle.sl_tcflow.specs.AcceptedUnit.{accepted_units, views_of}
use Rattle.sl_tcflow.specs.FormDelivery.{IsFormat, AreDeliverable, NormalFormIsFrames, NoFrameIsLong, NormalFormDelivers}
use Rattle.sl_tcflow.specs.Fits.{FitsTc}
use Rattle.sl_tcflow.specs.Reception.{packets_of_segments, segments_of}
use Rattle.sl_tcflow.specs.ReceptionParameters.{ReceptionParameters, is_plain, initial_vr}
use Rattle.sl_tcflow.specs.Recording.{map_channels, packets_of_channel, recorded_views}
use Rattle.sl_tcflow.specs.Series.{segment_in, segments_on}
use Rattle.sl_tcflow.specs.TcNormalForm.{tc_frames_form, tc_normal_form_of, units_of_maps}
use Rattle.sl_fields.proofs.ListLemmas.{each-at, each-drop, each-take, each-weaker, filter_all}
use Rattle.sl_tcflow.proofs.lemmas.Form.Frames.{all_accepted, channel_back, form_cut, form_within, lists_on, some_room}
use Rattle.sl_tcflow.proofs.lemmas.Form.Plain.{back_on, list_on}
use Rattle.sl_packet.proofs.WithoutIdleLemmas.{due_packets}

-- ---- frames end to end

pub normal_form_is_frames : NormalFormIsFrames
normal_form_is_frames format spacecraft starts plain lists is known are fits = search (arith, append-nil, form_cut)

pub no_frame_is_long : NoFrameIsLong
no_frame_is_long format spacecraft starts plain lists is known are fits = form_within format spacecraft is known starts plain lists are fits

-- what is read of the normal form is what is read of its frames
pub views_are : (format : TcFormat) (spacecraft : ℕ) (starts plain : List ℕ) (lists : List (List (List ℕ))) → IsFormat format → spacecraft ≤ 1023 → AreDeliverable lists
    → FitsTc format plain lists
    → recorded_views format spacecraft (tc_normal_form_of format spacecraft starts plain lists) ≡ views_of format spacecraft (tc_frames_form format spacecraft starts plain lists)
views_are format spacecraft starts plain lists is known are fits =
    ap (views_of format spacecraft)
    (delimited_once format (tc_normal_form_of format spacecraft starts plain lists) (tc_frames_form format spacecraft starts plain lists) []
    (normal_form_is_frames format spacecraft starts plain lists is known are fits)).0

-- ---- the packets of a channel

-- no packet is left out of packets that may be delivered
none_idle : (packets : List (List ℕ)) → AllByRecursion IsDeliverable packets → without_idle packets ≡ packets
none_idle packets each = grind (arith, filter_all, each-weaker)

some_lists : (n m : ℕ) (lists : List (List (List ℕ))) → AllByRecursion (AllByRecursion IsDeliverable) lists → AllByRecursion (AllByRecursion IsPacket) (take n (drop m lists))
some_lists n m lists each = grind (arith, each-take, each-drop, each-weaker, due_packets)

module _ (format : TcFormat) (spacecraft : ℕ) (r : ReceptionParameters) (lists : List (List (List ℕ))) (is : IsFormat format) (known : spacecraft ≤ 1023) (octets : AreStarts r.starts) (are : AreDeliverable lists) (fits : FitsTc format r.plain lists) where
  abbrev form : List ℕ
  form = tc_normal_form_of format spacecraft r.starts r.plain lists

  packets_on_map : (vc map_id : ℕ) → vc < 64 → map_id < 64
      → packets_of_segments (segments_of r vc map_id (recorded_views format spacecraft form)) ≡ slice_index_or lists (64 * vc + map_id) []
  packets_on_map vc map_id vc_fits map_id_fits =
      let room = segment_room_of format in
      let units = units_of_maps (is_plain r vc) room 0 (lists_on lists vc) in
      let all : length lists ≡ channel_count = are.all in
      let left : 64 ≤ length (drop (64 * vc) lists) = omega (arith, length-drop (64 * vc) lists, all) in
      let small : initial_vr r vc < 256 = octets.each vc 0 (omega (arith, octets.count, vc_fits)) in
      ap (λ views. packets_of_segments (segments_of r vc map_id views)) (views_are format spacecraft r.starts r.plain lists is known are fits)
      ∙ ap (λ channel. packets_of_segments (segments_on map_id (map (segment_in (is_plain r vc)) (accepted_units r.window (initial_vr r vc) channel)))) (channel_back format spacecraft is known r.starts r.plain lists are fits vc vc_fits)
      ∙ ap (λ accepted. packets_of_segments (segments_on map_id (map (segment_in (is_plain r vc)) accepted))) (all_accepted r.window vc (initial_vr r vc) (initial_vr r vc) units small (omega (arith, small)))
      ∙ back_on format lists vc room (some_room format spacecraft is known) left (is_plain r vc) map_id map_id_fits (fits vc vc_fits) (some_lists 64 (64 * vc) lists are.each)
      ∙ list_on lists vc map_id map_id_fits

  list_back : (channel : ℕ) → channel < channel_count
      → slice_index_or lists channel [] ≡ without_idle (packets_of_channel r (recorded_views format spacecraft form) channel)
  list_back channel below =
      let index : 64 * (channel / 64) + channel % 64 ≡ channel = omega arith in
      let packets = slice_index_or lists channel [] in
      let each = each-at (AllByRecursion IsDeliverable) lists channel [] tt are.each in
      sym (ap without_idle (packets_on_map (channel / 64) (channel % 64) (omega (arith, below)) (omega arith) ∙ ap (λ n. slice_index_or lists n []) index) ∙ none_idle packets each)

-- ---- all channels

map_over_channels : (f : ℕ → List (List ℕ)) (lists : List (List (List ℕ))) → length lists ≡ channel_count
    → ((channel : ℕ) → channel < channel_count → slice_index_or lists channel [] ≡ f channel) → map f map_channels ≡ lists
unfolding map_channels
map_over_channels f lists all each = sym (fill_by_all f lists channel_count [] all each)

pub normal_form_delivers : NormalFormDelivers
normal_form_delivers format spacecraft r lists is known octets are fits = search (arith, map_over_channels, list_back)
