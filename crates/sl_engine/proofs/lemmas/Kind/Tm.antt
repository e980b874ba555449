-- What TM frames deliver, as a kind.
use Rattle.std.proofs.Common.{◌≡◌, ◌≢◌, ℕ, ◌-◌, ◌*◌, ◌/◌, ◌^◌, ◌<◌, ◌≤◌, Option, List, [], ◌∷◌, ◌++◌, length, take, Result, Ok, Err, refl, sym, ap, arith, append-nil, length-drop}
use Rattle.std.proofs.lemmas.List.{length-take}
use Rattle.std.proofs.lemmas.Nat.{mod_below}
use Rattle.sl_fields.specs.Field.{number_of}
use Rattle.sl_packet.proofs.CountLemmas.{split_count}
use Rattle.sl_tmframe.specs.declared.tm_frame.TmSkip.{TmSkip}
use Rattle.sl_tmframe.specs.TmFrame.{TmFormat, TmView, read_as, skip_reason, view_of, tm_frame}
use Rattle.sl_tmflow.specs.VirtualChannel.{views_of, views_on}
use Rattle.sl_tmflow.specs.Anomaly.{dropped_of, foreign_of, gap_of}
use Rattle.sl_tmflow.specs.Extractor.{IsIncompleteAround}
use Rattle.sl_tmflow.specs.Recording.{packets_of_channel}
use Rattle.sl_tmflow.specs.StepReport.{StepReport}
use Rattle.sl_tmflow.proofs.lemmas.Delivery.Channel.{other_seen, same_seen}
use Rattle.sl_tmflow.proofs.lemmas.Delivery.Push.{delivered_push, ended_few}
use Rattle.sl_engine.specs.Kind.Tm.{HasProcessedTm, IsIncompleteAtLastTm, as_read, ended_in, finding_of, found_after, tm_kind, vc_of}
use Rattle.sl_engine.specs.Kind.Delivery.{AddsByChannel, with_frame}
use Rattle.sl_engine.specs.Link.Managed.{Parameters, managed_of, tm_format}
use Rattle.sl_engine.specs.Framing.Tm.{is_tm_frame}
use Rattle.sl_engine.proofs.lemmas.Kind.Delivery.{idle_more, none_within, octets_more, packets_more, views_next}
use Rattle.sl_engine.proofs.lemmas.Link.Managed.{managed_length}

-- ---- a frame, as it is read

-- a virtual channel identifier has three bits
small_vc : (format : TmFormat) (spacecraft : ℕ) (frame : List ℕ) → vc_of (tm_frame format spacecraft frame) < 8
small_vc format spacecraft frame = grind (arith, mod_below (number_of (take 6 frame) / 2 ^ (8 * 6 - 12 - 3)) (2 ^ 3) (omega arith))

-- the packets that end in a frame, idle ones too, are no more than its octets
ended_within : (format : TmFormat) (frame : List ℕ) (views : List TmView) (reason : Option TmSkip) → 7 ≤ length frame
    → length (ended_in views (read_as reason (view_of format frame))) ≤ length frame
ended_within format frame views reason long = grind (arith, ended_few, length-take, length-drop)

-- ---- one frame more

-- it adds the packets that end in it to those of its own virtual channel, and none to another's
own_step : (views : List TmView) (r : Result TmView TmSkip) → packets_of_channel (with_frame views r) (vc_of r) ≡ packets_of_channel views (vc_of r) ++ ended_in views r
own_step views r = grind (arith, append-nil, delivered_push, same_seen)

other_step : (views : List TmView) (r : Result TmView TmSkip) (vc : ℕ) → vc_of r ≢ vc → packets_of_channel (with_frame views r) vc ≡ packets_of_channel views vc
other_step views r vc other = grind (arith, other_seen)

pub tm_adds_by_channel : (p : Parameters) → AddsByChannel (tm_kind p)
tm_adds_by_channel p = record {
  none = λ vc. refl;
  own = λ frames frame. rw (views_next (as_read p) frames frame) (own_step (views_of (tm_format p) p.spacecraft frames) (as_read p frame));
  other = λ frames frame vc apart. rw (views_next (as_read p) frames frame) (other_step (views_of (tm_format p) p.spacecraft frames) (as_read p frame) vc apart);
  inside = small_vc (tm_format p) p.spacecraft;
  few = omega arith;
  all = refl;
}

-- ---- an extractor or a counter

pub none_processed : (p : Parameters) {had : List TmView → Type 0} → had [] → HasProcessedTm p had []
none_processed p processed = record { processed = processed; within = none_within (tm_kind p) (tm_adds_by_channel p) }

-- a frame that the framer cuts
pub some_octets : {p q : Parameters} (frame : List ℕ) → managed_of q ≡ Ok q → q ≡ p → is_tm_frame p frame → 7 ≤ length frame
some_octets {q = q} frame allowed same whole = let range = managed_length q allowed in omega (arith, range.0, whole.1, ap (λ (r : Parameters). r.tm_length) same)

pub one_processed : {p : Parameters} {before : List (List ℕ)} (frame : List ℕ) {had had' : List TmView → Type 0} {r : Result TmView TmSkip} → 7 ≤ length frame → HasProcessedTm p had before → as_read p frame ≡ r
    → had' (with_frame (views_of (tm_format p) p.spacecraft before) r) → HasProcessedTm p had' (before ++ frame ∷ [])
one_processed {p} {before} frame long h is processed =
    let laws = tm_adds_by_channel p in
    let seen = views_of (tm_format p) p.spacecraft before in
    let few = ended_within (tm_format p) frame seen (skip_reason (tm_format p) p.spacecraft frame) long in
    let split = split_count (ended_in seen (as_read p frame)) in
    let before_it = h.within.within in
    record {
      processed = rw (views_next (as_read p) before frame, is) processed;
      within = record { adds = laws; within = omega (arith, before_it, few, split, packets_more (tm_kind p) laws before frame, idle_more (tm_kind p) laws before frame, octets_more before frame) };
    }

-- the report on a frame that is read says what is found of it
pub finding_is : (p : Parameters) (frame : List ℕ) {view : TmView} (seen : List TmView) (report : StepReport) → as_read p frame ≡ Ok view
    → report.gap ≡ gap_of (views_on view.vc seen) view → report.dropped ≡ dropped_of (views_on view.vc seen) view → report.foreign ≡ foreign_of view.field
    → Ok (finding_of view report) ≡ found_after seen (as_read p frame)
finding_is p frame seen report read gap dropped foreign = rw (gap, dropped, foreign) (sym (ap (found_after seen) read))

-- a packet is incomplete before or after the next frame, on its virtual channel, where that frame is read
abbrev pub is_incomplete_around : List TmView → Result TmView TmSkip → Type 0
is_incomplete_around views (Ok view) = IsIncompleteAround views view
is_incomplete_around views (Err reason) = ⊥

-- so one is at the last of the frames
pub is_incomplete_at_last : {p : Parameters} (before : List (List ℕ)) (frame : List ℕ) {r : Result TmView TmSkip} → as_read p frame ≡ r
    → is_incomplete_around (views_of (tm_format p) p.spacecraft before) r → IsIncompleteAtLastTm p (before ++ frame ∷ [])
is_incomplete_at_last before frame {r = Ok view} e incomplete = record { before = before; frame = frame; in_order = refl; view = view; is_read = e; incomplete = incomplete }
is_incomplete_at_last before frame {r = Err reason} e incomplete = absurd incomplete
