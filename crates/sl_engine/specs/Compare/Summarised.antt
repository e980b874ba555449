-- What `check` has of a recording that is compared, in numbers, and signs in its frames.
use Rattle.std.specs.Prelude.{◌≡◌, ℕ, ◌==◌, nat_lt, Bool, false, if◌then◌else◌, List, [], ◌++◌, length, map}
use Rattle.std.specs.List.{concat}
use Rattle.sl_tcframe.specs.TcFrame.{tc_header_of}
use Rattle.sl_tcframe.specs.TcDelimited.{tc_frames_of}
use Rattle.sl_tmframe.specs.TmDelimited.{tm_frames_of}
use Rattle.sl_tmframe.specs.TmFrame.{tm_header_of}
use Rattle.sl_tmflow.specs.Recording.{virtual_channels}
use Rattle.sl_tmflow.specs.VirtualChannel.{views_of, views_on}
use Rattle.sl_engine.specs.Compare.Signs.{no_channels, signs_by}
use Rattle.sl_engine.specs.Compare.Words.{word_counts}
use Rattle.sl_engine.specs.Kind.Delivery.{Kind}
use Rattle.sl_engine.specs.Kind.Tc.{TcFinding, tc_kind}
use Rattle.sl_engine.specs.Kind.Tm.{tm_kind}
use Rattle.sl_engine.specs.Link.Managed.{Parameters, tc_format, tm_format}
use Rattle.sl_engine.specs.Link.Totals.{Counts}
use Rattle.sl_engine.specs.Tally.{remainder_after}
use Rattle.sl_engine.specs.Verbs.Check.Checking.{HasChecked}
use Rattle.sl_engine.specs.Verbs.Check.Lines.{check_counts_in, end_anomalies, totals_line}
use Rattle.sl_engine.specs.Verbs.Check.Tc.{check_tc_counts, check_tc_text, discarded_anomaly, discards, tc_anomalies_after, tc_open}
use Rattle.sl_engine.specs.Verbs.Check.Tm.{check_tm_counts, check_tm_text, tm_anomalies_after, tm_open}
use Rattle.sl_engine.specs.Verbs.Listing.{Frames, lines_from}
use Rattle.sl_engine.specs.declared.compare.signs.Signs.{Signs}
use Rattle.sl_engine.specs.declared.compare.summary.Summary.{Summary}
use Rattle.sl_engine.specs.declared.compare.words.WordCounts.{WordCounts}

-- ---- the frames of the spacecraft

-- a TM frame has the spacecraft's identifier
abbrev pub is_own_tm : Parameters → List ℕ → Bool
is_own_tm p frame = (tm_header_of frame).spacecraft == p.spacecraft

-- a TC frame has the spacecraft's identifier
abbrev pub is_own_tc : Parameters → List ℕ → Bool
is_own_tc p frame = (tc_header_of frame).spacecraft == p.spacecraft

-- a TC frame is longer than the greatest length
abbrev pub is_long_tc : Parameters → List ℕ → Bool
is_long_tc p frame = nat_lt p.tc_max (length frame)

-- on which virtual channels a TM frame was read
abbrev pub tm_begun : Parameters → Frames → List Bool
tm_begun p frames =
    map (λ vc. nat_lt 0 (length (views_on vc (views_of (tm_format p) p.spacecraft frames)))) virtual_channels

-- ---- a recording

-- the lines of `check`, one by one, but for that of the totals: those of frames, and those after the last frame, which
-- has `remainder` octets behind it
abbrev pub check_lines : Kind → (Frames → List ℕ → List (List ℕ)) → (ℕ → Frames → ℕ → List (List ℕ)) → Frames → ℕ
    → List (List ℕ)
check_lines k anomalies_at open_at frames remainder =
    lines_from anomalies_at [] frames ++ end_anomalies k open_at frames remainder

-- the numbers of frames and a remainder, and the signs of the frames
abbrev pub summary_in : Kind → (Frames → List ℕ → List (List ℕ)) → (ℕ → Frames → ℕ → List (List ℕ))
    → (Frames → Signs) → Frames → ℕ → Summary
summary_in k anomalies_at open_at signs_of frames remainder =
    record {
      totals = check_counts_in k anomalies_at open_at frames remainder;
      words = word_counts (check_lines k anomalies_at open_at frames remainder);
      signs = signs_of frames;
    }

-- the same of a recording, by its frames
abbrev pub recording_summary : (Frames → ℕ → Summary) → (List ℕ → Frames) → List ℕ → Summary
recording_summary summary_of frames_of recording =
    summary_of (frames_of recording) (remainder_after (frames_of recording) recording)

-- the numbers and signs of a TM recording
abbrev pub tm_summary : Parameters → List ℕ → Summary
tm_summary p =
    recording_summary (summary_in (tm_kind p) (tm_anomalies_after p) (tm_open p)
    (signs_by (is_own_tm p) (λ frame. false) (tm_begun p))) (tm_frames_of p.tm_length)

-- the numbers and signs of a TC recording
abbrev pub tc_summary : Parameters → List ℕ → Summary
tc_summary p =
    recording_summary (summary_in (tc_kind p) (tc_anomalies_after p) (tc_open p)
    (signs_by (is_own_tc p) (is_long_tc p) (λ frames. no_channels))) (tc_frames_of (tc_format p))

-- ---- laws

-- the lines of `check` of a recording, but for that of the totals
abbrev pub recording_lines : (Frames → ℕ → List (List ℕ)) → (List ℕ → Frames) → List ℕ → List (List ℕ)
recording_lines lines_of frames_of recording =
    lines_of (frames_of recording) (remainder_after (frames_of recording) recording)

abbrev pub tm_check_lines : Parameters → List ℕ → List (List ℕ)
tm_check_lines p = recording_lines (check_lines (tm_kind p) (tm_anomalies_after p) (tm_open p)) (tm_frames_of p.tm_length)

abbrev pub tc_check_lines : Parameters → List ℕ → List (List ℕ)
tc_check_lines p =
    recording_lines (check_lines (tc_kind p) (tc_anomalies_after p) (tc_open p)) (tc_frames_of (tc_format p))

-- These are the lines of `check`: its text is these lines and then the totals, whose anomalies are as many. And the
-- numbers of a recording that is compared are of these lines.
pub record AreCheckLines (text : List ℕ) (totals : Counts) (numbers : Summary) (lines : List (List ℕ)) : Type 0 where
  pub text_is : text ≡ concat lines ++ totals_line totals
  pub many : totals.anomalies ≡ length lines
  pub totals_are : numbers.totals ≡ totals
  pub words : numbers.words ≡ word_counts lines

-- The numbers are of the lines that `check` writes of a TM recording,
abbrev pub TmNumbersAreOfCheck : Type 0
TmNumbersAreOfCheck =
    (p : Parameters) (recording : List ℕ)
    → AreCheckLines (check_tm_text p recording) (check_tm_counts p recording) (tm_summary p recording)
    (tm_check_lines p recording)

-- and of a TC recording.
abbrev pub TcNumbersAreOfCheck : Type 0
TcNumbersAreOfCheck =
    (p : Parameters) (recording : List ℕ)
    → AreCheckLines (check_tc_text p recording) (check_tc_counts p recording) (tc_summary p recording)
    (tc_check_lines p recording)

-- ---- while frames are counted. Contracts of private functions alone cite this.

-- the line of a TC frame that FARM-1 discards, if it is one
abbrev pub discarded_lines : ℕ → TcFinding → List (List ℕ)
discarded_lines offset found = if discards found.verdict then discarded_anomaly offset found found.ns else []

-- these frames were processed and counted, and their signs were taken
pub record HasSummed (k : Kind) (anomalies_at : Frames → List ℕ → List (List ℕ)) (had : Frames → Type 0)
    (signs_of : Frames → Signs) (t : Counts) (counted : WordCounts) (taken : Signs) (frames : Frames) : Type 0 where
  pub delivered : HasChecked k anomalies_at had frames t
  pub words : counted ≡ word_counts (lines_from anomalies_at [] frames)
  pub signs : taken ≡ signs_of frames
