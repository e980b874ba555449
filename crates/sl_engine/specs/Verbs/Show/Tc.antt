-- The listing of a TC recording's frames, a line for each, and then its remainder.
use Rattle.std.specs.Prelude.{ℕ, ◌-◌, ◌==◌, Bool, if◌then◌else◌, List, ◌++◌, length, codes, decimal, Result, Ok, Err, is_err}
use Rattle.std.specs.List.{concat}
use Rattle.hex.specs.Hex.{encode_lower}
use Rattle.sl_cop.specs.declared.verdict.Verdict.{Verdict}
use Rattle.sl_cop.specs.Farm.{FarmState, FarmView, farm_step}
use Rattle.sl_cop.specs.FarmClcw.{clcw_of}
use Rattle.sl_fields.specs.Clcw.{clcw_octets}
use Rattle.sl_tcframe.specs.declared.tc_frame.TcSkip.{TcSkip}
use Rattle.sl_tcframe.specs.TcDelimited.{tc_frames_of}
use Rattle.sl_tcframe.specs.TcFrame.{TcView, Content, Ad, Bd, Unlock, SetVr, tc_frame}
use Rattle.sl_tcframe.specs.VcSet.{has_vc}
use Rattle.sl_tcflow.specs.AcceptedUnit.{event_of, views_of}
use Rattle.sl_tcflow.specs.Farms.{farm_of}
use Rattle.sl_tcflow.specs.Series.{header_at}
use Rattle.sl_engine.specs.Io.Words.{line_at, tc_skip_word, verdict_word}
use Rattle.sl_engine.specs.Link.Managed.{Parameters, reception_of, tc_format}
use Rattle.sl_engine.specs.Link.Totals.{Counts}
use Rattle.sl_engine.specs.Verbs.Show.Shown.{show_listing}
use Rattle.sl_engine.specs.Tally.{recording_counts}
use Rattle.sl_engine.specs.Verbs.Listing.{Listing, listing_text}

-- the sequence flags of a segment
abbrev pub flags_word : ℕ → List ℕ
flags_word flags =
    if flags == 1 then codes "first"
    else if flags == 0 then codes "middle"
    else if flags == 2 then codes "last"
    else codes "whole"

-- a unit with a segment header: the header, and how many octets follow
abbrev pub segment_text : List ℕ → List ℕ
segment_text unit =
    codes " segment " ++ flags_word (header_at unit).flags
    ++ codes " map " ++ decimal (header_at unit).map
    ++ codes " octets " ++ decimal (length unit - 1)

-- a segment header by its fields, with the name of the number behind it
abbrev pub segment_header_text : ℕ → ℕ → List ℕ
segment_header_text flags map_id =
    codes " segment " ++ flags_word flags ++ codes " map " ++ decimal map_id ++ codes " octets "

-- a unit, without a segment header (`plain`) or with it
abbrev pub unit_text : Bool → List ℕ → List ℕ
unit_text plain unit = if plain then codes " unit octets " ++ decimal (length unit) else segment_text unit

-- what a frame carries, on a virtual channel without segment headers or with them
abbrev pub content_text : Bool → Content → List ℕ
content_text plain (Ad ns unit) = codes "ad " ++ decimal ns ++ unit_text plain unit
content_text plain (Bd unit) = codes "bd" ++ unit_text plain unit
content_text plain Unlock = codes "unlock"
content_text plain (SetVr vr) = codes "setvr " ++ decimal vr

-- the verdict, and the CLCW that reports the state after it
abbrev pub step_text : ℕ → Verdict × FarmState → List ℕ
step_text vc step = verdict_word step.0 ++ codes " clcw " ++ encode_lower (clcw_octets (clcw_of vc step.1))

-- the line of a frame that is read, after its offset; `farm` is FARM-1 of its virtual channel before the frame
abbrev pub tc_view_text : Bool → FarmView → TcView → List ℕ
tc_view_text plain farm view =
    codes " frame vc " ++ decimal view.vc ++ codes " " ++ content_text plain view.content ++ codes " "
    ++ step_text view.vc (farm_step farm.window farm.state (event_of view.content))

-- the line of a frame, after its offset: `plain` are the virtual channels without segment headers,
-- and `farms` is FARM-1 of each virtual channel before the frame
abbrev pub tc_frame_text : List ℕ → (ℕ → FarmView) → Result TcView TcSkip → List ℕ
tc_frame_text plain farms (Ok view) = tc_view_text (has_vc plain view.vc) (farms view.vc) view
tc_frame_text plain farms (Err reason) = codes " skip " ++ tc_skip_word reason

-- FARM-1 of a virtual channel before the frame that comes after the frames `before`
abbrev pub farm_before : Parameters → List (List ℕ) → ℕ → FarmView
farm_before p before vc = farm_of (reception_of p) vc (views_of (tc_format p) p.spacecraft before)

-- the line of a frame that comes after these frames
abbrev pub show_tc_line : Parameters → List (List ℕ) → List ℕ → List ℕ
show_tc_line p before frame =
    line_at (length (concat before)) (tc_frame_text p.plain (farm_before p before)
    (tc_frame (tc_format p) p.spacecraft frame))

-- whether a frame is skipped
abbrev pub tc_is_skipped : Parameters → List ℕ → Bool
tc_is_skipped p frame = is_err (tc_frame (tc_format p) p.spacecraft frame)

-- the listing: a line for each frame, and one for a remainder
abbrev pub show_tc_listing : Parameters → Listing
show_tc_listing p = show_listing (tc_is_skipped p) (show_tc_line p)

-- the text of a recording
abbrev pub show_tc_text : Parameters → List ℕ → List ℕ
show_tc_text p = listing_text (tc_frames_of (tc_format p)) (show_tc_listing p)

-- what is counted in a recording
abbrev pub show_tc_counts : Parameters → List ℕ → Counts
show_tc_counts p = recording_counts (show_tc_listing p).counts (tc_frames_of (tc_format p))
