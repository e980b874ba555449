-- What is counted while frames are listed or delivered.
use Rattle.std.specs.Prelude.{ℕ, ◌+◌, ◌-◌, Bool, if◌then◌else◌, List, [], ◌∷◌, length}
use Rattle.std.specs.List.{concat}
use Rattle.sl_engine.specs.declared.tally.FrameReport.{FrameReport}
use Rattle.sl_engine.specs.Link.Totals.{Counts}

-- how many frames are skipped
abbrev pub skipped_in : (List ℕ → Bool) → List (List ℕ) → ℕ
skipped_in is_skipped [] = 0
skipped_in is_skipped (frame ∷ frames) = (if is_skipped frame then 1 else 0) + skipped_in is_skipped frames

-- the seven counts, in the order in which `Counts` has them
abbrev pub counts_with : ℕ → ℕ → ℕ → ℕ → ℕ → ℕ → ℕ → Counts
counts_with octets frames skipped remainder packets idle anomalies =
    record {
      octets = octets;
      frames = frames;
      skipped = skipped;
      rest = remainder;
      packets = packets;
      idle = idle;
      anomalies = anomalies;
    }

-- how many octets of a recording come after the frames
abbrev pub remainder_after : List (List ℕ) → List ℕ → ℕ
remainder_after frames recording = length recording - length (concat frames)

-- what is counted in a recording, by the counts of frames and a remainder, and the frames of a recording
abbrev pub recording_counts : (List (List ℕ) → ℕ → Counts) → (List ℕ → List (List ℕ)) → List ℕ → Counts
recording_counts counts frames_of recording =
    counts (frames_of recording) (remainder_after (frames_of recording) recording)

-- ---- while frames are counted, in terms of the code. Contracts of private functions alone cite this section.

-- nothing yet
abbrev pub no_counts : Counts
no_counts = counts_with 0 0 0 0 0 0 0

-- one frame more
abbrev pub counts_more : Counts → ℕ → FrameReport → Counts
counts_more c octets report =
    counts_with (c.octets + octets) (c.frames + 1) (c.skipped + (if report.is_skipped then 1 else 0)) c.rest
    (c.packets + report.packets) (c.idle + report.idle) c.anomalies

-- anomalies more
abbrev pub counts_with_anomalies : Counts → ℕ → Counts
counts_with_anomalies c more = record c { anomalies = c.anomalies + more }

-- a remainder, and the anomalies after the last frame
abbrev pub counts_with_remainder : Counts → ℕ → ℕ → Counts
counts_with_remainder c remainder more =
    counts_with (c.octets + remainder) c.frames c.skipped remainder c.packets c.idle (c.anomalies + more)

-- The counts of frames, without a remainder. The three numbers after the frames are how many packets they brought
-- together, how many idle ones, and how many anomalies.
abbrev pub counts_so_far : (List ℕ → Bool) → List (List ℕ) → ℕ → ℕ → ℕ → Counts
counts_so_far is_skipped frames = counts_with (length (concat frames)) (length frames) (skipped_in is_skipped frames) 0
