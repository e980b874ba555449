-- Why nothing can be said of two recordings: the questions, and which of them is asked.
use Rattle.std.specs.Prelude.{ℕ, ◌+◌, ◌-◌, ◌*◌, ◌==◌, nat_lt, Bool, true, false, not, ◌&&◌, ◌||◌, if◌then◌else◌}
use Rattle.std.specs.Prelude.{List, Option, None, Some}
use Rattle.std.specs.List.{count_by, list_any, range_with_len, slice_index_or}
use Rattle.std.specs.Option.{option_or}
use Rattle.sl_engine.specs.Compare.Signs.{looked_at}
use Rattle.sl_engine.specs.declared.compare.summary.Summary.{Summary}
use Rattle.sl_engine.specs.declared.compare.words.WordCounts.{WordCounts}
use Rattle.sl_pair.specs.declared.channel.Station.{Station}
use Rattle.sl_pair.specs.declared.channel.Station.TheVariants.{First, Second}
use Rattle.sl_pair.specs.declared.pairing.Answer.{Answer}
use Rattle.sl_pair.specs.declared.pairing.Answer.TheVariants.{Same, Reordered, Different}
use Rattle.sllink_compare.specs.Words.{number_at}
use Rattle.sllink_compare.specs.declared.questions.Allowed.{Allowed}
use Rattle.sllink_compare.specs.declared.questions.Doubt.{Doubt}
use Rattle.sllink_compare.specs.declared.questions.Doubt.TheVariants.{Gaps, Long, Field}
use Rattle.sllink_compare.specs.declared.questions.Question.{Question}
use Rattle.sllink_compare.specs.declared.questions.Question.TheVariants.{Options, Nothing, Most, Lines}
use Rattle.sllink_compare.specs.declared.questions.Seen.{Seen}

-- the station of whose recording something holds, the first where it holds of both
abbrev pub station_where : Bool → Bool → Option Station
station_where first second = if first then Some First else if second then Some Second else None

-- a part is more than half of the whole
abbrev pub is_most : ℕ → ℕ → Bool
is_most part whole = nat_lt whole (2 * part)

-- ---- do the frames contradict the options?

-- how many frames were read and have a predecessor: one on their virtual channel that was read before them
abbrev pub with_predecessor : Summary → ℕ
with_predecessor it = it.totals.frames - it.totals.skipped - count_by (λ begun. begun) it.signs.begun

-- more than half of the frames that have a predecessor have a gap
abbrev pub has_mostly_gaps : Summary → Bool
has_mostly_gaps it = is_most it.words.gap (with_predecessor it)

-- a part is more than a tenth of the whole
abbrev pub is_over_a_tenth : ℕ → ℕ → Bool
is_over_a_tenth part whole = nat_lt whole (10 * part)

-- the error control field is right in at least two and at least half of the frames of the spacecraft that are looked
-- at, which are the first thousand
abbrev pub shows_field : ℕ → ℕ → Bool
shows_field right own = nat_lt 1 right && not (nat_lt (2 * right) (if nat_lt own looked_at then own else looked_at))

-- what the frames show against the options, first of all what comes first here
abbrev pub doubt_of : Seen → Option Doubt
doubt_of it =
    if has_mostly_gaps it.summary then Some Gaps
    else if is_over_a_tenth it.summary.signs.long it.summary.signs.own then Some Long
    else if not it.has_field && shows_field it.summary.signs.right it.summary.signs.own then Some Field
    else None

-- the doubt of the first recording, else that of the second one
abbrev pub options_asked : Option Doubt → Option Doubt → Option Question
options_asked (Some doubt) other = Some (Options First doubt)
options_asked None (Some doubt) = Some (Options Second doubt)
options_asked None None = None

abbrev pub options_question : Allowed → Seen → Seen → Option Question
options_question allowed first second =
    if allowed.options then None else options_asked (doubt_of first) (doubt_of second)

-- ---- does a recording deliver nothing, or are most of its frames skipped?

-- a question about the recording of a station, if there is one
abbrev pub asked_of : (Station → Question) → Option Station → Option Question
asked_of question None = None
asked_of question (Some station) = Some (question station)

-- a recording delivers no packet
abbrev pub is_silent : Summary → Bool
is_silent it = it.totals.packets == 0

abbrev pub nothing_question : Allowed → Seen → Seen → Option Question
nothing_question allowed first second =
    if allowed.nothing then None
    else asked_of Nothing (station_where (is_silent first.summary) (is_silent second.summary))

-- more than half of the frames of a recording that delivers packets are skipped
abbrev pub is_mostly_skipped : Summary → Bool
is_mostly_skipped it = not (is_silent it) && is_most it.totals.skipped it.totals.frames

abbrev pub most_question : Allowed → Seen → Seen → Option Question
most_question allowed first second =
    if allowed.most then None
    else asked_of Most (station_where (is_mostly_skipped first.summary) (is_mostly_skipped second.summary))

-- ---- has `check` lines that may matter?

-- the word at this place isn't allowed, and a recording has a line with it
abbrev pub is_other : List Bool → WordCounts → ℕ → Bool
is_other allowed counts place = nat_lt 0 (number_at counts place) && not (slice_index_or allowed place false)

-- some word isn't allowed, and a recording has a line with it
abbrev pub has_other_lines : List Bool → WordCounts → Bool
has_other_lines allowed counts = list_any (is_other allowed counts) (range_with_len 0 14)

-- the word at this place isn't allowed, and one of two recordings has a line with it
abbrev pub is_asked : List Bool → WordCounts → WordCounts → ℕ → Bool
is_asked allowed first second place = is_other allowed first place || is_other allowed second place

-- packets differ
abbrev pub differs : Answer → Bool
differs Same = false
differs Reordered = false
differs Different = true

abbrev pub lines_question : Answer → Allowed → Seen → Seen → Option Question
lines_question answer allowed first second =
    if differs answer then None
    else asked_of Lines (station_where (has_other_lines allowed.lines first.summary.words)
    (has_other_lines allowed.lines second.summary.words))

-- ---- what is asked

-- The question that is asked of two recordings, if one is: the first of those that are open. `--allow` answers each.
abbrev pub question_of : Answer → Allowed → Seen → Seen → Option Question
question_of answer allowed first second =
    option_or (option_or (option_or (options_question allowed first second) (nothing_question allowed first second))
    (most_question allowed first second)) (lines_question answer allowed first second)
