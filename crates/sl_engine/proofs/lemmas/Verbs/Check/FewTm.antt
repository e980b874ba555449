-- The lines of the anomalies of TM frames are few: four at most for each frame, and after the last one, for the packets that
-- are incomplete, no more than frames.
use Rattle.std.proofs.Common.{◌≡◌, ◌≢◌, nat_lt, ℕ, ◌<◌, ◌≤◌, List, [], ◌∷◌, length, map, refl, arith, append-nil, length-append, codes, None, Some, Result}
use Rattle.std.specs.Prelude.{flat_map}
use Rattle.std.specs.List.{AllByRecursion, concat}
use Rattle.std.proofs.lemmas.Bool.{lt-ltb}
use Rattle.std.proofs.lemmas.List.{length-map}
use Rattle.sl_tmframe.specs.declared.tm_frame.TmSkip.{TmSkip}
use Rattle.sl_tmframe.specs.TmFrame.{TmView}
use Rattle.sl_tmflow.specs.VirtualChannel.{views_on, views_of}
use Rattle.sl_tmflow.specs.Incomplete.{IsShort, incomplete_of}
use Rattle.sl_tmflow.proofs.lemmas.Delivery.Channel.{other_seen}
use Rattle.sl_tmflow.proofs.lemmas.Incomplete.List.{one_is_incomplete, incomplete_is_short}
use Rattle.sl_engine.specs.Kind.Delivery.{with_frame}
use Rattle.sl_engine.specs.Kind.Tm.{TmFinding, as_read, tm_found, tm_kind, vc_of}
use Rattle.sl_engine.specs.Link.Managed.{Parameters, tm_format}
use Rattle.sl_engine.specs.Framing.Tm.{is_tm_frame}
use Rattle.sl_engine.specs.Verbs.Check.Lines.{event_anomaly, event_line}
use Rattle.sl_engine.specs.Verbs.Check.Tm.{tm_anomaly_lines, tm_open}
use Rattle.sl_engine.proofs.lemmas.Kind.Delivery.{views_next}
use Rattle.sl_engine.proofs.lemmas.Kind.Tm.{tm_adds_by_channel}
use Rattle.sl_engine.proofs.lemmas.Verbs.Check.Lines as few

four_lines : (offset : ℕ) (found : Result TmFinding TmSkip) → length (tm_anomaly_lines offset found) ≤ 4
four_lines offset found = grind (arith, length-append)

-- a frame has fewer lines than octets
pub few_lines : (offset : ℕ) (p : Parameters) (before : List (List ℕ)) (frame : List ℕ) → is_tm_frame p frame → 5 ≤ length frame
    → length (tm_anomaly_lines offset (tm_found p before frame)) < length frame
few_lines offset p before frame whole long = omega (arith, long, four_lines offset (tm_found p before frame))

-- ---- the packets that are incomplete

one_line : (offset vc : ℕ) (xs : List (List ℕ)) → length xs ≤ 1 → AllByRecursion IsShort xs
    → event_anomaly offset vc None (codes " open") (nat_lt 0 (length (concat xs))) (Some (length (concat xs)))
    ≡ map (λ octets. event_line offset vc None (codes " open") (Some (length octets))) xs
one_line offset vc [] few short = refl
one_line offset vc (x ∷ []) few short = rw (append-nil x, lt-ltb 0 (length x) short.0.0) refl
one_line offset vc (x ∷ y ∷ ys) few short = absurd (omega arith)

-- the line of a virtual channel, by the octets that are held
pub open_is : (p : Parameters) (offset vc : ℕ) (frames : List (List ℕ)) {octets : ℕ}
    → octets ≡ length (concat (incomplete_of (views_on vc (views_of (tm_format p) p.spacecraft frames))))
    → event_anomaly offset vc None (codes " open") (nat_lt 0 octets) (Some octets) ≡ tm_open p offset frames vc
open_is p offset vc frames held = grind (arith, incomplete_is_short, one_is_incomplete, one_line)

-- a frame of another virtual channel leaves it
channel_other : (vc : ℕ) (views : List TmView) (r : Result TmView TmSkip) → vc_of r ≢ vc → views_on vc (with_frame views r) ≡ views_on vc views
channel_other vc views r other = grind (arith, other_seen)

pub few_open : (p : Parameters) (offset : ℕ) (frames : List (List ℕ)) → length (flat_map (tm_open p offset frames) (tm_kind p).channels) ≤ length frames
few_open p offset frames =
    few.few_open (tm_kind p) (tm_adds_by_channel p) (tm_open p offset) (λ vc. refl)
    (λ before vc. let channel = views_on vc (views_of (tm_format p) p.spacecraft before) in simp length-map (one_is_incomplete channel))
    (λ before frame vc other. rw (views_next (as_read p) before frame, channel_other vc (views_of (tm_format p) p.spacecraft before) (as_read p frame) other) refl)
    frames
