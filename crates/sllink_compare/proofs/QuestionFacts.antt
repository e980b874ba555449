-- Worked examples of the questions.
use Rattle.std.proofs.Common.{◌≡◌, ℕ, Bool, true, false, List, [], ◌∷◌, ◌++◌, None, Some, refl}
use Rattle.std.specs.Fmt.{digits}
use Rattle.std.specs.Prelude.{codes}
use Rattle.std.specs.List.{slice_set}
use Rattle.sl_engine.specs.declared.compare.summary.Summary.{Summary}
use Rattle.sl_engine.specs.declared.compare.words.WordCounts.{WordCounts}
use Rattle.sl_engine.specs.declared.engine.RecordingKind.TheVariants.{Tm, Tc}
use Rattle.sl_pair.specs.declared.channel.Station.TheVariants.{First, Second}
use Rattle.sl_pair.specs.declared.pairing.Answer.TheVariants.{Same, Reordered, Different}
use Rattle.sllink_compare.specs.Asking.{asked_text, doubt_text, skipped_text}
use Rattle.sllink_compare.specs.CommandLine.{allowed_with, kind_named, place_of}
use Rattle.sllink_compare.specs.Questions.{question_of}
use Rattle.sllink_compare.specs.Totals.{words_text}
use Rattle.sllink_compare.specs.declared.questions.Allowed.{Allowed}
use Rattle.sllink_compare.specs.declared.questions.Doubt.TheVariants.{Gaps, Long, Field}
use Rattle.sllink_compare.specs.declared.questions.Question.TheVariants.{Options, Nothing, Most, Lines}
use Rattle.sllink_compare.specs.declared.questions.Seen.{Seen}

-- no line of any word
abbrev none : WordCounts
none =
    record {
      skip = 0;
      gap = 0;
      dropped = 0;
      opaque = 0;
      foreign = 0;
      rest = 0;
      incomplete = 0;
      early = 0;
      late = 0;
      outside = 0;
      refused = 0;
      stray = 0;
      long = 0;
      tail = 0;
    }

-- ten frames on two virtual channels, without a line of `check`, and without a right error control field
abbrev calm : Summary
calm =
    record {
      totals = record { octets = 320; frames = 10; skipped = 0; rest = 0; packets = 7; idle = 1; anomalies = 0 };
      words = none;
      signs = record { own = 10; right = 0; long = 0; begun = true ∷ true ∷ false ∷ false ∷ false ∷ false ∷ false ∷ false ∷ [] };
    }

-- with lines of some words
abbrev with_words : WordCounts → Summary
with_words words = record calm { words = words }

-- with so many gaps
abbrev with_gaps : ℕ → Summary
with_gaps gaps = with_words (record none { gap = gaps })

-- with this number of frames of which the error control field is right
abbrev with_right : ℕ → Summary
with_right right = record calm { signs = record calm.signs { right = right } }

-- with so many frames that are longer than the greatest length
abbrev with_long : ℕ → Summary
with_long long = record calm { signs = record calm.signs { long = long } }

-- with so many skipped frames, and so many packets
abbrev with_totals : ℕ → ℕ → Summary
with_totals skipped packets =
    record calm { totals = record { octets = 320; frames = 10; skipped = skipped; rest = 0; packets = packets; idle = 0; anomalies = 0 } }

-- read without an error control field
abbrev seen : Summary → Seen
seen it = record { summary = it; has_field = false }

-- nothing is allowed
abbrev nobody : Allowed
nobody =
    record {
      lines = false ∷ false ∷ false ∷ false ∷ false ∷ false ∷ false ∷ false ∷ false ∷ false ∷ false ∷ false ∷ false ∷ false ∷ [];
      options = false;
      nothing = false;
      most = false;
    }

record Facts : Type 0 where
  -- two recordings in which nothing is doubtful
  answered : question_of Same nobody (seen calm) (seen calm) ≡ None
  -- eight of ten frames have a predecessor: four gaps are half of them, five are more
  half_gaps : question_of Different nobody (seen (with_gaps 4)) (seen calm) ≡ None
  most_gaps : question_of Different nobody (seen (with_gaps 5)) (seen calm) ≡ Some (Options First Gaps)
  -- the first recording comes first
  first : question_of Different nobody (seen (with_right 5)) (seen (with_gaps 5)) ≡ Some (Options First Field)
  second : question_of Different nobody (seen calm) (seen (with_long 2)) ≡ Some (Options Second Long)
  -- one of ten frames is no more than a tenth
  tenth : question_of Different nobody (seen calm) (seen (with_long 1)) ≡ None
  -- the field is right in at least half of the frames, and is asked for
  few_right : question_of Different nobody (seen (with_right 4)) (seen calm) ≡ None
  asked_for : question_of Different nobody (record { summary = with_right 10; has_field = true }) (seen calm) ≡ None
  -- a question that `--allow` answers isn't asked
  allowed : question_of Different (record nobody { options = true }) (seen (with_gaps 8)) (seen calm) ≡ None
  -- a recording without packets, and one with packets of which most frames are skipped
  silent : question_of Different nobody (seen calm) (seen (with_totals 0 0)) ≡ Some (Nothing Second)
  skipped : question_of Different nobody (seen (with_totals 6 1)) (seen calm) ≡ Some (Most First)
  half_skipped : question_of Different nobody (seen (with_totals 5 1)) (seen calm) ≡ None
  silent_too : question_of Different (record nobody { nothing = true }) (seen (with_totals 6 0)) (seen calm) ≡ None
  -- a line of `check` is asked about where no packet differs, unless its word is allowed
  lines : question_of Same nobody (seen calm) (seen (with_gaps 1)) ≡ Some (Lines Second)
  lines_of_both : question_of Reordered nobody (seen (with_gaps 1)) (seen (with_gaps 1)) ≡ Some (Lines First)
  lines_differ : question_of Different nobody (seen calm) (seen (with_gaps 1)) ≡ None
  lines_allowed : question_of Same (record nobody { lines = slice_set nobody.lines 1 true }) (seen calm) (seen (with_gaps 1))
      ≡ None
  -- words
  gaps_said : doubt_text Gaps Tm (with_gaps 5) ≡ codes "gaps before 5 of 8 frames that have a predecessor"
  long_said : doubt_text Long Tc (with_long 2) ≡ codes "2 of 10 frames are longer than --tc-length"
  skipped_said : skipped_text (with_totals 6 1) ≡ codes "6 of 10 frames are skipped"
  words_said : asked_text nobody.lines (record none { skip = 1 }) (record none { skip = 2; rest = 1 }) ≡ codes ": skip,rest"
  words_counted : words_text (record none { gap = 12; tail = 1 }) ≡ codes ": gap 12, tail 1"
  -- words of the command line
  tm : kind_named (codes "tm") ≡ Tm
  tc : kind_named (codes "tc") ≡ Tc
  place : place_of (codes "tail") ≡ Some 13
  no_place : place_of (codes "gaps") ≡ None
  allows : allowed_with (codes "gap") nobody ≡ Some (record nobody { lines = slice_set nobody.lines 1 true })
  allows_options : allowed_with (codes "options") nobody ≡ Some (record nobody { options = true })
  refuses : allowed_with (codes "all") nobody ≡ None

facts : Facts
unfolding digits
facts =
    record {
      answered = refl;
      half_gaps = refl;
      most_gaps = refl;
      first = refl;
      second = refl;
      tenth = refl;
      few_right = refl;
      asked_for = refl;
      allowed = refl;
      silent = refl;
      skipped = refl;
      half_skipped = refl;
      silent_too = refl;
      lines = refl;
      lines_of_both = refl;
      lines_differ = refl;
      lines_allowed = refl;
      gaps_said = refl;
      long_said = refl;
      skipped_said = refl;
      words_said = refl;
      words_counted = refl;
      tm = refl;
      tc = refl;
      place = refl;
      no_place = refl;
      allows = refl;
      allows_options = refl;
      refuses = refl;
    }
