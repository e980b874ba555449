-- The line of a question.
use Rattle.std.specs.Prelude.{ℕ, Bool, if◌then◌else◌, List, [], ◌∷◌, ◌++◌, codes, decimal}
use Rattle.sl_engine.specs.Compare.Words.{word_text}
use Rattle.sl_engine.specs.declared.compare.summary.Summary.{Summary}
use Rattle.sl_engine.specs.declared.compare.words.WordCounts.{WordCounts}
use Rattle.sl_engine.specs.declared.engine.RecordingKind.{RecordingKind}
use Rattle.sl_engine.specs.declared.engine.RecordingKind.TheVariants.{Tm, Tc}
use Rattle.sl_pair.specs.declared.channel.Station.{Station}
use Rattle.sl_pair.specs.declared.channel.Station.TheVariants.{First, Second}
use Rattle.sllink_compare.specs.Questions.{is_asked, is_silent, with_predecessor}
use Rattle.sllink_compare.specs.Totals.{found_at, listed}
use Rattle.sllink_compare.specs.Words.{word_at}
use Rattle.sllink_compare.specs.declared.questions.Doubt.{Doubt}
use Rattle.sllink_compare.specs.declared.questions.Doubt.TheVariants.{Gaps, Long, Field}
use Rattle.sllink_compare.specs.declared.questions.Question.{Question}
use Rattle.sllink_compare.specs.declared.questions.Question.TheVariants.{Options, Nothing, Most, Lines}
use Rattle.sllink_compare.specs.declared.run.Comparison.{Comparison}
use Rattle.sllink_compare.specs.declared.totals.Names.{Names}

-- ---- a station's recording

-- its name
abbrev pub name_at : Station → Names → List ℕ
name_at First names = names.first.now
name_at Second names = names.second.now

-- its numbers
abbrev pub summary_at : Station → Summary → Summary → Summary
summary_at First first second = first
summary_at Second first second = second

-- the station whose recording a question is about
abbrev pub station_of : Question → Station
station_of (Options station doubt) = station
station_of (Nothing station) = station
station_of (Most station) = station
station_of (Lines station) = station

-- ---- what is seen

-- so many of all, with what stands before and behind
abbrev pub ratio_text : List ℕ → ℕ → ℕ → List ℕ → List ℕ
ratio_text before part whole behind = before ++ decimal part ++ codes " of " ++ decimal whole ++ behind

-- the option that asks for an error control field isn't given
abbrev pub field_text : RecordingKind → List ℕ
field_text Tm = codes "--tm-fecf isn't given, and its frames have an error control field"
field_text Tc = codes "--tc-fecf isn't given, and its frames have an error control field"

-- what the frames of a recording show against its options
abbrev pub doubt_text : Doubt → RecordingKind → Summary → List ℕ
doubt_text Gaps kind it =
    ratio_text (codes "gaps before ") it.words.gap (with_predecessor it) (codes " frames that have a predecessor")
doubt_text Long kind it = ratio_text [] it.signs.long it.signs.own (codes " frames are longer than --tc-length")
doubt_text Field kind it = field_text kind

-- a recording delivers no packet, or neither does, which is said where the first one is asked about
abbrev pub nothing_text : Station → Names → Summary → List ℕ
nothing_text First names second =
    if is_silent second then codes "neither recording delivers a packet"
    else names.first.now ++ codes ": delivers no packet"
nothing_text Second names second = names.second.now ++ codes ": delivers no packet"

-- how many frames of a recording are skipped
abbrev pub skipped_text : Summary → List ℕ
skipped_text it = ratio_text [] it.totals.skipped it.totals.frames (codes " frames are skipped")

-- the word at this place, where it isn't allowed and one of the recordings has a line with it
abbrev pub word_asked : List Bool → WordCounts → WordCounts → ℕ → List (List ℕ)
word_asked allowed first second place =
    if is_asked allowed first second place then word_text (word_at place) ∷ [] else []

-- all of these
abbrev pub asked_text : List Bool → WordCounts → WordCounts → List ℕ
asked_text allowed first second = listed (codes ",") (found_at (word_asked allowed first second) 14)

-- what is seen of a recording, or of both
abbrev pub seen_text : Question → Comparison → Names → Summary → Summary → List ℕ
seen_text (Options station doubt) asked names first second =
    name_at station names ++ codes ": " ++ doubt_text doubt asked.kind (summary_at station first second)
seen_text (Nothing station) asked names first second = nothing_text station names second
seen_text (Most station) asked names first second =
    name_at station names ++ codes ": " ++ skipped_text (summary_at station first second)
seen_text (Lines station) asked names first second =
    codes "no packet differs, but check has lines that --allow doesn't name"
    ++ asked_text asked.allowed.lines first.words second.words

-- ---- the line

-- the word of `--allow` that answers a question; lines are allowed by their words
abbrev pub way_text : Question → List ℕ
way_text (Options station doubt) = codes "--allow options says so; "
way_text (Nothing station) = codes "--allow nothing says so; "
way_text (Most station) = codes "--allow most says so; "
way_text (Lines station) = []

-- the line of a question
abbrev pub question_text : Question → Comparison → Names → Summary → Summary → List ℕ
question_text question asked names first second =
    codes "sllink-compare: " ++ seen_text question asked names first second ++ codes "; are the options right? "
    ++ way_text question ++ codes "sllink-identify " ++ name_at (station_of question) names
    ++ codes " says what it is\n"
