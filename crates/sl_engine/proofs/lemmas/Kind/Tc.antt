-- What TC frames deliver, as a kind.
use Rattle.std.proofs.Common.{◌≡◌, ◌≢◌, ℕ, ◌+◌, ◌/◌, ◌^◌, ◌<◌, ◌≤◌, Bool, true, not, List, [], ◌∷◌, ◌++◌, length, map, take, Option, None, Result, Ok, Err, refl, sym, ap, arith, append-nil, length-drop, if◌then◌else◌}
use Rattle.std.specs.List.{concat, range_with_len}
use Rattle.std.proofs.lemmas.List.{length-take}
use Rattle.std.proofs.lemmas.Nat.{mod_below}
use Rattle.sl_fields.specs.Field.{number_of}
use Rattle.sl_fields.specs.TcHeader.{TcFields}
use Rattle.sl_packet.specs.Delivered.{channel_count}
use Rattle.sl_packet.proofs.CountLemmas.{split_count}
use Rattle.sl_tcframe.specs.declared.tc_frame.TcSkip.{TcSkip}
use Rattle.sl_tcframe.specs.TcFrame.{TcView, Content, command_of, content_of, early_reason, is_cut, tc_header_of, tc_parts_of, read_as, unit_content}
use Rattle.sl_tcframe.proofs.PartLemmas.{cut_facts}
use Rattle.sl_tcflow.specs.AcceptedUnit.{views_of}
use Rattle.sl_tcflow.specs.Anomaly.{dropped_by, long_by, stray_by, tail_by}
use Rattle.sl_tcflow.specs.Farms.{verdict_on}
use Rattle.sl_tcflow.specs.Receiver.{IsIncompleteAround, unit_channel, unit_map, incomplete_octets_on}
use Rattle.sl_tcflow.specs.ReceptionParameters.{ReceptionParameters, is_plain}
use Rattle.sl_tcflow.specs.Recording.{map_channels, packets_of_channel}
use Rattle.sl_tcflow.specs.StepReport.{StepReport}
use Rattle.sl_tcflow.proofs.lemmas.Reception.Channel.{held_other, held_own, packets_other, packets_own, small_map, unit_len}
use Rattle.sl_engine.specs.Kind.Tc.{HasProcessedTc, IsIncompleteAtLastTc, as_read, unit_channel_of, ended_in, finding_of, found_after, octets_held_after, tc_kind}
use Rattle.sl_engine.specs.Kind.Delivery.{AddsByChannel, count_of, number_of_idle, number_of_packets, with_frame}
use Rattle.sl_engine.specs.Link.Managed.{Parameters, reception_of, tc_format}
use Rattle.sl_engine.proofs.lemmas.Kind.Delivery.{idle_more, no_idle, no_packets, none_within, octets_more, packets_more, views_next}
use Rattle.sl_engine.proofs.lemmas.Kind.Channels.{items_change, no_items}

-- ---- a frame, as it is read

-- its channel is one of 4,096
read_channel : (r : ReceptionParameters) (reason : Option TcSkip) (frame : List ℕ) (content : Option Content) → unit_channel_of r (read_as reason (tc_header_of frame) content) < channel_count
read_channel r reason frame content =
    grind (arith, small_map (is_plain r (tc_header_of frame).vc), mod_below (number_of (take 5 frame) / 2 ^ 18) 64 (omega arith))

pub small_channel : (p : Parameters) (frame : List ℕ) → unit_channel_of (reception_of p) (as_read p frame) < channel_count
small_channel p frame =
    read_channel (reception_of p) (early_reason (tc_format p) p.spacecraft frame) frame (content_of (tc_header_of frame) (tc_parts_of (tc_format p) frame).field)

-- the octets of its unit are no more than its own
abbrev unit_len_of : Result TcView TcSkip → ℕ
unit_len_of (Ok view) = unit_len view.content
unit_len_of (Err reason) = 0

read_most : (reason : Option TcSkip) (h : TcFields) (field : List ℕ) (command bypass : Bool)
    → unit_len_of (read_as reason h (if not command then unit_content h field else if bypass then command_of field else None)) ≤ length field
read_most reason h field command bypass = grind arith

unit_within : (p : Parameters) (frame : List ℕ) → unit_len_of (as_read p frame) ≤ length frame
unit_within p frame = grind (arith, length-drop, length-take, read_most)

-- ---- one frame more

-- the number of the channels, where another number stands for it
pub channels_are : (n : ℕ) → n ≡ channel_count → map_channels ≡ range_with_len 0 n
unfolding map_channels
channels_are n all = ap (range_with_len 0) (sym all)

module _ (r : ReceptionParameters) where
  -- it adds the packets that end with its unit to those of its own channel, and none to another's
  own_step : (views : List TcView) (read : Result TcView TcSkip) → packets_of_channel r (with_frame views read) (unit_channel_of r read) ≡ packets_of_channel r views (unit_channel_of r read) ++ ended_in r views read
  own_step views read = grind (arith, append-nil, packets_own)

  other_step : (views : List TcView) (read : Result TcView TcSkip) (channel : ℕ) → unit_channel_of r read ≢ channel → packets_of_channel r (with_frame views read) channel ≡ packets_of_channel r views channel
  other_step views read channel other = grind (arith, packets_other)

pub tc_adds_by_channel : (p : Parameters) → AddsByChannel (tc_kind p)
tc_adds_by_channel p = record {
  none = λ channel. refl;
  own = λ frames frame. rw (views_next (as_read p) frames frame) (own_step (reception_of p) (views_of (tc_format p) p.spacecraft frames) (as_read p frame));
  other = λ frames frame channel apart. rw (views_next (as_read p) frames frame) (other_step (reception_of p) (views_of (tc_format p) p.spacecraft frames) (as_read p frame) channel apart);
  inside = small_channel p;
  few = omega arith;
  all = channels_are channel_count refl;
}

-- ---- a receiver or a counter

-- the packets that end and the octets that are held after them are no more than those held before and the frame's own
held_next : (p : Parameters) (views : List TcView) (read : Result TcView TcSkip) → unit_channel_of (reception_of p) read < channel_count
    → count_of (map (incomplete_octets_on (reception_of p) (with_frame views read)) map_channels) + length (ended_in (reception_of p) views read)
    ≤ count_of (map (incomplete_octets_on (reception_of p) views) map_channels) + unit_len_of read
held_next p views (Err reason) range = omega arith
held_next p views (Ok view) range =
    let r = reception_of p in
    let at = unit_channel r view in
    let all = channels_are channel_count refl in
    let change = items_change channel_count map_channels all (incomplete_octets_on r views) (incomplete_octets_on r (views ++ view ∷ [])) at range (λ i other. ap length (held_other r views view i other)) in
    omega (arith, change, held_own r views view at refl)

pub none_processed : (p : Parameters) {had : List TcView → Type 0} → had [] → HasProcessedTc p had []
none_processed p processed =
    let laws = tc_adds_by_channel p in
    let held : octets_held_after p [] ≡ 0 = no_items (incomplete_octets_on (reception_of p) []) map_channels (λ channel. refl) in
    record {
      processed = processed;
      within = none_within (tc_kind p) laws;
      held = omega (arith, no_packets (tc_kind p) laws, no_idle (tc_kind p) laws, held);
    }

-- a frame has five octets
pub some_octets : (p : Parameters) (frame : List ℕ) → is_cut (tc_format p) frame ≡ true → 5 ≤ length frame
some_octets p frame cut = let least = (cut_facts (tc_format p) frame cut).0 in omega (arith, least)

pub one_processed : {p : Parameters} {before : List (List ℕ)} (frame : List ℕ) {had had' : List TcView → Type 0} {r : Result TcView TcSkip} → HasProcessedTc p had before → as_read p frame ≡ r
    → had' (with_frame (views_of (tc_format p) p.spacecraft before) r) → HasProcessedTc p had' (before ++ frame ∷ [])
one_processed {p} {before} frame h is processed =
    let laws = tc_adds_by_channel p in
    let seen = views_of (tc_format p) p.spacecraft before in
    let read = as_read p frame in
    let next = views_next (as_read p) before frame in
    let within = h.held in
    let held_is = ap (λ views. count_of (map (incomplete_octets_on (reception_of p) views) map_channels)) next in
    let few = held_next p seen read (small_channel p frame) in
    let split = split_count (ended_in (reception_of p) seen read) in
    let held : number_of_packets (tc_kind p) (before ++ frame ∷ []) + number_of_idle (tc_kind p) (before ++ frame ∷ []) + octets_held_after p (before ++ frame ∷ []) ≤ length (concat (before ++ frame ∷ [])) =
    omega (arith, within, few, held_is, unit_within p frame, split, packets_more (tc_kind p) laws before frame, idle_more (tc_kind p) laws before frame, octets_more before frame) in
    record { processed = rw (next, is) processed; within = record { adds = laws; within = omega (arith, held) }; held = held }

-- the report on a frame that is read says what is found of it
pub finding_is : (p : Parameters) (frame : List ℕ) {view : TcView} (r : ReceptionParameters) (seen : List TcView) (report : StepReport) → as_read p frame ≡ Ok view
    → report.map ≡ unit_map r view → report.verdict ≡ verdict_on r seen view → report.stray ≡ stray_by r seen view → report.dropped ≡ dropped_by r seen view
    → report.long ≡ long_by r seen view → report.tail ≡ tail_by r seen view → Ok (finding_of view report) ≡ found_after r seen (as_read p frame)
finding_is p frame r seen report read map_is verdict stray dropped long tail = rw (map_is, verdict, stray, dropped, long, tail) (sym (ap (found_after r seen) read))

-- the next frame's unit is accepted, and a series is incomplete before or after it on its MAP, where that frame is read
abbrev pub is_incomplete_around : ReceptionParameters → List TcView → Result TcView TcSkip → Type 0
is_incomplete_around r views (Ok view) = IsIncompleteAround r views view
is_incomplete_around r views (Err reason) = ⊥

-- so one is at the last of the frames
pub is_incomplete_at_last : {p : Parameters} (before : List (List ℕ)) (frame : List ℕ) {read : Result TcView TcSkip} → as_read p frame ≡ read
    → is_incomplete_around (reception_of p) (views_of (tc_format p) p.spacecraft before) read → IsIncompleteAtLastTc p (before ++ frame ∷ [])
is_incomplete_at_last before frame {read = Ok view} e incomplete = record { before = before; frame = frame; in_order = refl; view = view; is_read = e; incomplete = incomplete }
is_incomplete_at_last before frame {read = Err reason} e incomplete = absurd incomplete
