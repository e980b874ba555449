use Rattle.std.proofs.Common.{◌≤◌, ℕ, List}
use Rattle.sl_engine.specs.Io.Output.{KeepsWriter}
use Rattle.sl_engine.specs.Link.Managed.{Parameters}
use Rattle.sl_engine.proofs.lemmas.Verbs.Check.Lines.{HasAdded}
use Rattle.sl_engine.proofs.verbs.check.incomplete_lines.Given as goal

abbrev pub invariant-loop-channel : goal.invariant-loop-channel
invariant-loop-channel g l =
    ((p : Parameters) (frames : List (List ℕ)) → g.D.Followed.has_processed l.counter p frames
    → HasAdded g.W.Write.contents (g.D.Checked.open_at p l.offset frames) (g.D.Followed.kind p) l.fn.out l.out l.channel l.number)
    × ((l.number ≤ l.channel) × KeepsWriter l.fn.out l.out)
