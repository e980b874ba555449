-- The lines of the anomalies of a recording, as `check` writes them, and of its totals.
use Rattle.std.specs.Prelude.{ℕ, ◌+◌, ◌==◌, Bool, if◌then◌else◌, List, [], ◌∷◌, ◌++◌, length, flat_map, codes, decimal, Option, None, Some}
use Rattle.std.specs.List.{concat}
use Rattle.sl_engine.specs.Io.Words.{line_at}
use Rattle.sl_engine.specs.Kind.Delivery.{Kind, counts_in}
use Rattle.sl_engine.specs.Link.Totals.{Counts}
use Rattle.sl_engine.specs.Verbs.Listing.{Listing, lines_from}

-- ---- a line

-- a number and the word before it, where there is one
abbrev pub some_text : List ℕ → Option ℕ → List ℕ
some_text word None = []
some_text word (Some number) = word ++ decimal number

-- the line of an event on a virtual channel, and on a MAP if one is given, and of how many octets
-- the event is, if it is one of octets
abbrev pub event_line : ℕ → ℕ → Option ℕ → List ℕ → Option ℕ → List ℕ
event_line offset vc map_id event octets =
    line_at offset (event ++ codes " vc " ++ decimal vc ++ some_text (codes " map ") map_id
    ++ some_text (codes " octets ") octets)

-- the same, where the event `holds`
abbrev pub event_anomaly : ℕ → ℕ → Option ℕ → List ℕ → Bool → Option ℕ → List (List ℕ)
event_anomaly offset vc map_id event holds octets =
    if holds then event_line offset vc map_id event octets ∷ [] else []

-- ---- what comes after the frames

-- the line of a remainder, by where it begins and how many octets it has, where there is one (the same line as `show`
-- has)
abbrev pub remainder_anomaly : ℕ → ℕ → List (List ℕ)
remainder_anomaly offset octets = if octets == 0 then [] else line_at offset (codes " rest " ++ decimal octets) ∷ []

-- the line of the totals, which comes last
abbrev pub totals_line : Counts → List ℕ
totals_line counts =
    codes "frames " ++ decimal counts.frames ++ codes " skipped " ++ decimal counts.skipped
    ++ codes " packets " ++ decimal counts.packets ++ codes " idle " ++ decimal counts.idle
    ++ codes " anomalies " ++ decimal counts.anomalies ++ codes "\n"

-- ---- a recording

-- the lines of a frame that comes after others, by what is found of it and the lines of what is found
-- at an offset, which is where the frame begins
abbrev pub anomalies_by : {Found : Type 0} → (ℕ → Found → List (List ℕ)) → (List (List ℕ) → List ℕ → Found)
    → List (List ℕ) → List ℕ → List (List ℕ)
anomalies_by lines found before frame = lines (length (concat before)) (found before frame)

-- the lines after frames: that of the remainder, which has `remainder` octets, and those of what is
-- incomplete on each channel at the end of the recording
abbrev pub end_anomalies : Kind → (ℕ → List (List ℕ) → ℕ → List (List ℕ)) → List (List ℕ) → ℕ → List (List ℕ)
end_anomalies k open_at frames remainder =
    remainder_anomaly (length (concat frames)) remainder
    ++ flat_map (open_at (length (concat frames) + remainder) frames) k.channels

-- what is counted: each line but that of the totals is an anomaly
abbrev pub check_counts_in : Kind → (List (List ℕ) → List ℕ → List (List ℕ))
    → (ℕ → List (List ℕ) → ℕ → List (List ℕ)) → List (List ℕ) → ℕ → Counts
check_counts_in k anomalies_at open_at frames remainder =
    record (counts_in k frames remainder) {
      anomalies = length (lines_from anomalies_at [] frames) + length (end_anomalies k open_at frames remainder);
    }

-- the listing: the lines of each frame, those after the last one, and the totals
abbrev pub check_listing : Kind → (List (List ℕ) → List ℕ → List (List ℕ))
    → (ℕ → List (List ℕ) → ℕ → List (List ℕ)) → Listing
check_listing k anomalies_at open_at =
    record {
      lines = λ before frame. concat (anomalies_at before frame);
      last = λ frames remainder. concat (end_anomalies k open_at frames remainder)
          ++ totals_line (check_counts_in k anomalies_at open_at frames remainder);
      counts = check_counts_in k anomalies_at open_at;
    }
