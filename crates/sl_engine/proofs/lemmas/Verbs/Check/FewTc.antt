-- The lines of the anomalies of TC frames are few: fewer for each frame than its octets, and after the last one, for the
-- series that are incomplete, no more than frames.
use Rattle.std.proofs.Common.{◌≡◌, ◌≢◌, ℕ, ◌/◌, ◌%◌, ◌<◌, ◌≤◌, Bool, if◌then◌else◌, List, [], length, Option, Some, Result, Ok, Err, refl, sym, arith, codes, length-append}
use Rattle.std.specs.Prelude.{flat_map, is_some, option_map, unwrap_or}
use Rattle.std.proofs.lemmas.List.{length-take}
use Rattle.sl_fields.specs.TcHeader.{TcFields}
use Rattle.sl_tcframe.specs.declared.tc_frame.TcSkip.{TcSkip}
use Rattle.sl_tcframe.specs.TcFrame.{TcView, content_of, read_as}
use Rattle.sl_tcflow.specs.AcceptedUnit.{views_of}
use Rattle.sl_tcflow.proofs.lemmas.Reception.Channel.{incomplete_other}
use Rattle.sl_engine.specs.Verbs.Check.Lines.{event_anomaly}
use Rattle.sl_engine.specs.Verbs.Check.Tc.{discarded_anomaly, incomplete_anomaly, open_on, tc_anomaly_lines, tc_open}
use Rattle.sl_engine.specs.Kind.Tc.{TcFinding, as_read, unit_channel_of, found_after, tc_found, tc_kind}
use Rattle.sl_engine.specs.Kind.Delivery.{with_frame}
use Rattle.sl_engine.specs.Link.Managed.{Parameters, reception_of, tc_format}
use Rattle.sl_engine.specs.Framing.Tc.{is_tc_frame}
use Rattle.sl_engine.proofs.lemmas.Kind.Delivery.{views_next}
use Rattle.sl_engine.proofs.lemmas.Kind.Tc.{tc_adds_by_channel}
use Rattle.sl_engine.proofs.lemmas.Verbs.Check.Lines.{one_event}
use Rattle.sl_engine.proofs.lemmas.Verbs.Check.Lines as few

-- ---- the lines of a frame are few

one_discarded : (offset : ℕ) (found : TcFinding) (ns : Option ℕ) (holds : Bool) → length (if holds then discarded_anomaly offset found ns else []) ≤ 1
one_discarded offset found ns holds = grind arith

five_lines : (offset : ℕ) (found : Result TcFinding TcSkip) → length (tc_anomaly_lines offset found) ≤ 5
five_lines offset found = grind (arith, length-append)

-- a frame that is read has a data field
some_field : (early : Option TcSkip) (h : TcFields) (field : List ℕ) (view : TcView) → read_as early h (content_of h field) ≡ Ok view → 1 ≤ length field
some_field early h field view read = grind arith

few_by : (p : Parameters) (frame : List ℕ) (offset : ℕ) (views : List TcView) (read : Result TcView TcSkip) → as_read p frame ≡ read → 5 ≤ length frame
    → length (tc_anomaly_lines offset (found_after (reception_of p) views read)) < length frame
few_by p frame offset views read is long = grind (arith, five_lines, length-take, some_field)

-- a frame has fewer lines than octets
pub few_lines : (offset : ℕ) (p : Parameters) (before : List (List ℕ)) (frame : List ℕ) → is_tc_frame p frame → 5 ≤ length frame
    → length (tc_anomaly_lines offset (tc_found p before frame)) < length frame
few_lines offset p before frame whole long = few_by p frame offset (views_of (tc_format p) p.spacecraft before) (as_read p frame) refl long

-- ---- the series that are incomplete

-- the line of a channel, by whether a series is incomplete there, and by its octets
pub open_is : (offset vc map_id : ℕ) (held : Option (List ℕ)) {octets : ℕ} {opened : Bool} → opened ≡ is_some held → octets ≡ unwrap_or (option_map length held) 0
    → event_anomaly offset vc (Some map_id) (codes " open") opened (Some octets) ≡ incomplete_anomaly offset vc map_id held
open_is offset vc map_id held is has = grind arith

-- a frame of another channel leaves it
open_other : (p : Parameters) (offset : ℕ) (views : List TcView) (read : Result TcView TcSkip) (channel : ℕ) → unit_channel_of (reception_of p) read ≢ channel
    → length (open_on (reception_of p) offset (with_frame views read) channel) ≡ length (open_on (reception_of p) offset views channel)
open_other p offset views (Err reason) channel other = refl
open_other p offset views (Ok view) channel other = rw (incomplete_other (reception_of p) views view channel (λ e. other (sym e))) refl

pub few_open : (p : Parameters) (offset : ℕ) (frames : List (List ℕ)) → length (flat_map (tc_open p offset frames) (tc_kind p).channels) ≤ length frames
few_open p offset frames =
    few.few_open (tc_kind p) (tc_adds_by_channel p) (tc_open p offset) (λ channel. refl)
    (λ before channel. one_event offset (channel / 64) (Some (channel % 64)) (codes " open") _ _)
    (λ before frame channel other. rw (views_next (as_read p) before frame) (open_other p offset (views_of (tc_format p) p.spacecraft before) (as_read p frame) channel other))
    frames
