-- The anomalies of a TM recording, as `check tm` lists them: a line for each, and then the totals.
use Rattle.std.specs.Prelude.{ℕ, nat_lt, List, [], ◌∷◌, ◌++◌, length, map, codes, decimal, Option, None, Some, Result, Ok, Err}
use Rattle.sl_tmframe.specs.declared.tm_frame.TmSkip.{TmSkip}
use Rattle.sl_tmframe.specs.TmDelimited.{tm_frames_of}
use Rattle.sl_tmflow.specs.VirtualChannel.{views_on, views_of}
use Rattle.sl_tmflow.specs.Incomplete.{incomplete_of}
use Rattle.sl_engine.specs.Verbs.Check.Lines.{anomalies_by, check_listing, event_anomaly, event_line}
use Rattle.sl_engine.specs.Kind.Tm.{TmFinding, tm_found, tm_kind}
use Rattle.sl_engine.specs.Io.Words.{line_at, tm_skip_word}
use Rattle.sl_engine.specs.Link.Managed.{Parameters, tm_format}
use Rattle.sl_engine.specs.Link.Totals.{Counts}
use Rattle.sl_engine.specs.Tally.{recording_counts}
use Rattle.sl_engine.specs.Verbs.Listing.{Listing, listing_text}

-- ---- a frame

-- another virtual channel frame count was expected
abbrev pub gap_anomaly : ℕ → TmFinding → Option ℕ → List (List ℕ)
gap_anomaly offset found None = []
gap_anomaly offset found (Some expected) =
    line_at offset (codes " gap vc " ++ decimal found.vc ++ codes " expected " ++ decimal expected
    ++ codes " found " ++ decimal found.vc_count) ∷ []

-- The lines of a frame at this offset, in their order, by what is found of it: a gap; an incomplete
-- packet is broken off, by how many octets of it had come; the frame is opaque; octets of another
-- packet version stand at a packet start.
abbrev pub tm_anomaly_lines : ℕ → Result TmFinding TmSkip → List (List ℕ)
tm_anomaly_lines offset (Ok found) =
    gap_anomaly offset found found.gap
    ++ event_anomaly offset found.vc None (codes " dropped") (nat_lt 0 found.dropped) (Some found.dropped)
    ++ event_anomaly offset found.vc None (codes " opaque") found.opaque None
    ++ event_anomaly offset found.vc None (codes " foreign") found.foreign None
tm_anomaly_lines offset (Err reason) = line_at offset (codes " skip " ++ tm_skip_word reason) ∷ []

-- ---- a recording

-- the lines of a frame that comes after `before`
abbrev pub tm_anomalies_after : Parameters → List (List ℕ) → List ℕ → List (List ℕ)
tm_anomalies_after p = anomalies_by tm_anomaly_lines (tm_found p)

-- the line of the packet that is incomplete after the last frame of a virtual channel, if one is: here
-- `incomplete_of`, of `sl_tmflow`, is a list of one packet or none
abbrev pub tm_open : Parameters → ℕ → List (List ℕ) → ℕ → List (List ℕ)
tm_open p offset frames vc =
    map (λ octets. event_line offset vc None (codes " open") (Some (length octets)))
    (incomplete_of (views_on vc (views_of (tm_format p) p.spacecraft frames)))

-- the listing
abbrev pub check_tm_listing : Parameters → Listing
check_tm_listing p = check_listing (tm_kind p) (tm_anomalies_after p) (tm_open p)

-- the text of a recording
abbrev pub check_tm_text : Parameters → List ℕ → List ℕ
check_tm_text p = listing_text (tm_frames_of p.tm_length) (check_tm_listing p)

-- what is counted in a recording
abbrev pub check_tm_counts : Parameters → List ℕ → Counts
check_tm_counts p = recording_counts (check_tm_listing p).counts (tm_frames_of p.tm_length)
