use Rattle.std.proofs.Common.{◌≡◌, ℕ, List, drop}
use Rattle.std.specs.Prelude.{◌||◌, bytes_eq}
use Rattle.std.specs.HashSet.{contains}
use Rattle.sl_merge.specs.Merge.{is_in_second}
use Rattle.sl_merge.proofs.twice.seconds_alone.Given as goal

abbrev pub invariant-loop-item : goal.invariant-loop-item
invariant-loop-item g l =
    (frame : List ℕ) → (contains bytes_eq l.seconds frame || is_in_second frame (drop l.item-index l.items)) ≡ is_in_second frame l.fn.items
