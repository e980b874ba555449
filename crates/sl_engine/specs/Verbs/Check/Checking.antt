-- Frames of a kind while they are checked, in terms of the code. Contracts of private functions alone cite these.
use Rattle.std.specs.Prelude.{◌≡◌, ℕ, ◌+◌, ◌≤◌, List, [], ◌++◌, length}
use Rattle.std.specs.List.{concat}
use Rattle.sl_engine.specs.Io.Lines.{line_width}
use Rattle.sl_engine.specs.Link.Totals.{Counts}
use Rattle.sl_engine.specs.Kind.Delivery.{HasDelivered, Kind}
use Rattle.sl_engine.specs.Verbs.Listing.{lines_from}

-- this line was added, or none, and this is the number of lines
pub record AddsAnomalies (old : List ℕ) (lines : List (List ℕ)) (new : List ℕ) (many : ℕ) : Type 0 where
  pub text : new ≡ old ++ concat lines
  pub number : many ≡ length lines
  pub few : many ≤ 1
  pub short : length new ≤ length old + line_width

-- these frames were processed and counted, and so were their anomalies
abbrev pub HasChecked : Kind → (List (List ℕ) → List ℕ → List (List ℕ)) → (List (List ℕ) → Type 0)
    → List (List ℕ) → Counts → Type 0
HasChecked k anomalies_at had frames = HasDelivered k had frames (length (lines_from anomalies_at [] frames))
