use Rattle.std.proofs.Common.{◌≡◌, ◌++◌}
use Rattle.std.specs.Prelude.{codes, string_bytes}
use Rattle.sllink_compare.specs.Totals.{found_at, listed, word_found}
use Rattle.sllink_compare.proofs.TotalsLemmas.{is_none_yet}
use Rattle.sllink_compare.proofs.totals.push_words.Given as goal

abbrev pub invariant-loop-place : goal.invariant-loop-place
invariant-loop-place l =
    let found = found_at (word_found l.fn.words) l.place in
    (string_bytes l.text ≡ string_bytes l.fn.text ++ listed (codes ", ") found) × (l.is_first ≡ is_none_yet found)
