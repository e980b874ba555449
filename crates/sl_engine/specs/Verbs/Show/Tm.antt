-- The listing of a TM recording's frames, a line for each, and then its remainder.
use Rattle.std.specs.Prelude.{ℕ, Bool, if◌then◌else◌, List, [], ◌++◌, length, codes, decimal, Option, None, Some, Result, Ok, Err, is_err}
use Rattle.std.specs.List.{concat}
use Rattle.hex.specs.Hex.{encode_lower}
use Rattle.sl_fields.specs.Field.{flag, bit_of}
use Rattle.sl_fields.specs.Clcw.{ClcwFields, clcw_word}
use Rattle.sl_tmframe.specs.declared.tm_frame.TmSkip.{TmSkip}
use Rattle.sl_tmframe.specs.TmFrame.{TmView, DataField, Packets, Idle, Opaque, tm_frame}
use Rattle.sl_tmframe.specs.TmDelimited.{tm_frames_of}
use Rattle.sl_engine.specs.Io.Words.{line_at, tm_skip_word}
use Rattle.sl_engine.specs.Link.Managed.{Parameters, tm_format}
use Rattle.sl_engine.specs.Link.Totals.{Counts}
use Rattle.sl_engine.specs.Verbs.Show.Shown.{show_listing}
use Rattle.sl_engine.specs.Tally.{recording_counts}
use Rattle.sl_engine.specs.Verbs.Listing.{Listing, listing_text}

-- what a frame carries
abbrev pub field_text : DataField → List ℕ
field_text (Packets (Some first) octets) = codes "first " ++ decimal first
field_text (Packets None octets) = codes "none"
field_text Idle = codes "idle"
field_text Opaque = codes "opaque"

-- the fields of a CLCW that the listing names
abbrev pub clcw_fields_text : ClcwFields → List ℕ
clcw_fields_text w =
    codes " vc " ++ decimal w.vc
    ++ codes " lockout " ++ decimal (bit_of w.lockout)
    ++ codes " wait " ++ decimal (bit_of w.wait)
    ++ codes " retransmit " ++ decimal (bit_of w.retransmit)
    ++ codes " farmb " ++ decimal w.farm_b
    ++ codes " vr " ++ decimal w.report

-- those of them between the virtual channel and the report value, with the name of the latter
abbrev pub clcw_flags_text : ClcwFields → List ℕ
clcw_flags_text w =
    codes " lockout " ++ decimal (bit_of w.lockout)
    ++ codes " wait " ++ decimal (bit_of w.wait)
    ++ codes " retransmit " ++ decimal (bit_of w.retransmit)
    ++ codes " farmb " ++ decimal w.farm_b
    ++ codes " vr "

-- an operational control field: a CLCW where its first bit is 0, another report where that is 1
abbrev pub word_text : List ℕ → List ℕ
word_text word =
    if flag 4 0 word then codes " ocf " ++ encode_lower word
    else codes " clcw " ++ encode_lower word ++ clcw_fields_text (clcw_word word)

-- the same, where the frame has one
abbrev pub control_text : Option (List ℕ) → List ℕ
control_text None = []
control_text (Some word) = word_text word

-- the virtual channel and the frame counts
abbrev pub frame_counts_text : TmView → List ℕ
frame_counts_text view =
    codes " frame vc " ++ decimal view.vc
    ++ codes " mc " ++ decimal view.mc_count
    ++ codes " vcc " ++ decimal view.vc_count

-- the line of a frame that is read, after its offset
abbrev pub tm_view_text : TmView → List ℕ
tm_view_text view = frame_counts_text view ++ codes " " ++ field_text view.field ++ control_text view.control

-- the line of a frame, after its offset
abbrev pub tm_frame_text : Result TmView TmSkip → List ℕ
tm_frame_text (Ok view) = tm_view_text view
tm_frame_text (Err reason) = codes " skip " ++ tm_skip_word reason

-- ---- a recording

-- whether a frame is skipped
abbrev pub tm_is_skipped : Parameters → List ℕ → Bool
tm_is_skipped p frame = is_err (tm_frame (tm_format p) p.spacecraft frame)

-- the line of a frame that comes after these frames, at its offset
abbrev pub show_tm_line : Parameters → List (List ℕ) → List ℕ → List ℕ
show_tm_line p before frame =
    line_at (length (concat before)) (tm_frame_text (tm_frame (tm_format p) p.spacecraft frame))

-- the listing: a line for each frame at its offset, and one for a remainder
abbrev pub show_tm_listing : Parameters → Listing
show_tm_listing p = show_listing (tm_is_skipped p) (show_tm_line p)

-- the text of a recording
abbrev pub show_tm_text : Parameters → List ℕ → List ℕ
show_tm_text p = listing_text (tm_frames_of p.tm_length) (show_tm_listing p)

-- what is counted in a recording
abbrev pub show_tm_counts : Parameters → List ℕ → Counts
show_tm_counts p = recording_counts (show_tm_listing p).counts (tm_frames_of p.tm_length)
