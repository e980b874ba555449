use Rattle.std.proofs.Common.{◌≡◌, ◌++◌}
use Rattle.std.specs.Prelude.{codes, string_bytes}
use Rattle.sllink_compare.specs.Asking.{word_asked}
use Rattle.sllink_compare.specs.Totals.{found_at, listed}
use Rattle.sllink_compare.proofs.TotalsLemmas.{is_none_yet}
use Rattle.sllink_compare.proofs.asking.push_asked.Given as goal

abbrev pub invariant-loop-place : goal.invariant-loop-place
invariant-loop-place l =
    let found = found_at (word_asked l.allowed l.first l.second) l.place in
    (string_bytes l.line ≡ string_bytes l.fn.line ++ listed (codes ",") found) × (l.is_first ≡ is_none_yet found)
