-- The anomalies of a TC recording, as `check tc` lists them: a line for each, and then the totals.
use Rattle.std.specs.Prelude.{ℕ, ◌/◌, ◌%◌, ◌==◌, Bool, true, false, not, ◌&&◌, nat_lt, if◌then◌else◌, length, codes, List, [], ◌∷◌}
use Rattle.std.specs.Prelude.{◌++◌, decimal, Option, None, Some, is_some, option_map, Result, Ok, Err}
use Rattle.sl_cop.specs.declared.verdict.Verdict.{Verdict}
use Rattle.sl_cop.specs.declared.verdict.Verdict.TheVariants.{Accept, Early, Late, Outside, Refused, Command}
use Rattle.sl_tcframe.specs.declared.tc_frame.TcSkip.{TcSkip}
use Rattle.sl_tcframe.specs.TcDelimited.{tc_frames_of}
use Rattle.sl_tcframe.specs.TcFrame.{TcView}
use Rattle.sl_tcflow.specs.AcceptedUnit.{views_of}
use Rattle.sl_tcflow.specs.Incomplete.{incomplete_of}
use Rattle.sl_tcflow.specs.Reception.{segments_of}
use Rattle.sl_tcflow.specs.ReceptionParameters.{ReceptionParameters}
use Rattle.sl_engine.specs.Verbs.Check.Lines.{anomalies_by, check_listing, event_anomaly}
use Rattle.sl_engine.specs.Kind.Tc.{TcFinding, tc_found, tc_kind}
use Rattle.sl_engine.specs.Io.Words.{line_at, tc_skip_word, verdict_word}
use Rattle.sl_engine.specs.Link.Managed.{Parameters, reception_of, tc_format}
use Rattle.sl_engine.specs.Link.Totals.{Counts}
use Rattle.sl_engine.specs.Tally.{recording_counts}
use Rattle.sl_engine.specs.Verbs.Listing.{Listing, listing_text}

-- ---- a frame

-- FARM-1 discards a frame with this verdict
abbrev pub discards : Verdict → Bool
discards Accept = false
discards Early = true
discards Late = true
discards Outside = true
discards Refused = true
discards Command = false

-- the line of a frame that FARM-1 discards, which is of type AD
abbrev pub discarded_anomaly : ℕ → TcFinding → Option ℕ → List (List ℕ)
discarded_anomaly offset found None = []
discarded_anomaly offset found (Some ns) =
    line_at offset (codes " " ++ verdict_word found.verdict ++ codes " vc " ++ decimal found.vc
    ++ codes " ad " ++ decimal ns) ∷ []

-- The lines of a frame at this offset, in their order, by what is found of it: FARM-1 discards the
-- frame; a segment is out of sequence; an incomplete series is dropped, by how many octets of it had
-- come; a series is given up, since it is too long; octets are left after the last packet of a service
-- data unit. What is found of a frame never gives all five: a frame that is discarded has no other line.
abbrev pub tc_anomaly_lines : ℕ → Result TcFinding TcSkip → List (List ℕ)
tc_anomaly_lines offset (Ok found) =
    (if discards found.verdict then discarded_anomaly offset found found.ns else [])
    ++ event_anomaly offset found.vc (Some found.map) (codes " stray") found.stray None
    ++ event_anomaly offset found.vc (Some found.map) (codes " dropped") (is_some found.dropped) found.dropped
    ++ event_anomaly offset found.vc (Some found.map) (codes " long") found.long None
    ++ event_anomaly offset found.vc (Some found.map) (codes " tail") (nat_lt 0 found.tail) (Some found.tail)
tc_anomaly_lines offset (Err reason) = line_at offset (codes " skip " ++ tc_skip_word reason) ∷ []

-- a frame has no line, by what is found of it. The contract of a private function alone cites this.
abbrev pub is_quiet : TcFinding → Bool
is_quiet found =
    not (discards found.verdict) && (not found.stray && (not (is_some found.dropped)
    && (not found.long && (found.tail == 0))))

-- ---- a recording

-- the lines of a frame that comes after `before`
abbrev pub tc_anomalies_after : Parameters → List (List ℕ) → List ℕ → List (List ℕ)
tc_anomalies_after p = anomalies_by tc_anomaly_lines (tc_found p)

-- a series that is incomplete after the last frame, with the octets so far, if one is
abbrev pub incomplete_anomaly : ℕ → ℕ → ℕ → Option (List ℕ) → List (List ℕ)
incomplete_anomaly offset vc map_id held =
    event_anomaly offset vc (Some map_id) (codes " open") (is_some held) (option_map length held)

-- the same of the virtual channel and MAP with this channel number, 64 VC + MAP
abbrev pub open_on : ReceptionParameters → ℕ → List TcView → ℕ → List (List ℕ)
open_on r offset views channel =
    incomplete_anomaly offset (channel / 64) (channel % 64)
    (incomplete_of (segments_of r (channel / 64) (channel % 64) views))

-- the same after the frames of a recording
abbrev pub tc_open : Parameters → ℕ → List (List ℕ) → ℕ → List (List ℕ)
tc_open p offset frames = open_on (reception_of p) offset (views_of (tc_format p) p.spacecraft frames)

-- the listing
abbrev pub check_tc_listing : Parameters → Listing
check_tc_listing p = check_listing (tc_kind p) (tc_anomalies_after p) (tc_open p)

-- the text of a recording
abbrev pub check_tc_text : Parameters → List ℕ → List ℕ
check_tc_text p = listing_text (tc_frames_of (tc_format p)) (check_tc_listing p)

-- what is counted in a recording
abbrev pub check_tc_counts : Parameters → List ℕ → Counts
check_tc_counts p = recording_counts (check_tc_listing p).counts (tc_frames_of (tc_format p))
