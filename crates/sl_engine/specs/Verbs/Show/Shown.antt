-- The listing of the frames of a recording, whatever kind they are.
use Rattle.std.specs.Prelude.{◌≡◌, ℕ, ◌+◌, Bool, List, length}
use Rattle.std.specs.List.{concat}
use Rattle.sl_engine.specs.Io.Words.{remainder_line}
use Rattle.sl_engine.specs.Link.Totals.{Counts}
use Rattle.sl_engine.specs.Tally.{counts_so_far, counts_with, skipped_in}
use Rattle.sl_engine.specs.Verbs.Listing.{Listing}

-- what is counted in frames, and in a remainder of this many octets
abbrev pub show_counts_in : (List ℕ → Bool) → List (List ℕ) → ℕ → Counts
show_counts_in is_skipped frames remainder =
    counts_with (length (concat frames) + remainder) (length frames) (skipped_in is_skipped frames) remainder 0 0 0

-- the listing: a line for each frame, and one for a remainder
abbrev pub show_listing : (List ℕ → Bool) → (List (List ℕ) → List ℕ → List ℕ) → Listing
show_listing is_skipped line =
    record {
      lines = line;
      last = λ frames remainder. remainder_line (length (concat frames)) remainder;
      counts = show_counts_in is_skipped;
    }

-- These frames were shown, as `had` says, and counted. Contracts of private functions alone cite this.
pub record HasShown (is_skipped : List ℕ → Bool) (had : List (List ℕ) → Type 0) (frames : List (List ℕ))
    (t : Counts) : Type 0 where
  pub shown : had frames
  pub counts : t ≡ counts_so_far is_skipped frames 0 0 0
