use Rattle.std.proofs.Common.{◌≡◌, ◌^◌, ◌<◌, ◌≤◌, ℕ, List}
use Rattle.sl_engine.specs.Compare.Words.{word_counts}
use Rattle.sl_engine.specs.Link.Managed.{Parameters}
use Rattle.sl_engine.proofs.lemmas.Compare.Summary.{HasCounted}
use Rattle.sl_engine.proofs.compare.turns.count_incomplete.Given as goal

abbrev pub invariant-loop-channel : goal.invariant-loop-channel
invariant-loop-channel g l =
    ((p : Parameters) (offset : ℕ) (frames lines : List (List ℕ)) → offset < 2 ^ 64 → g.D.Followed.has_processed l.deliverer p frames → l.fn.words ≡ word_counts lines
    → HasCounted (g.D.Checked.open_at p offset frames) (g.D.Followed.kind p) lines l.words l.channel l.number)
    × (l.number ≤ l.channel)
