use Rattle.std.proofs.Common.{◌≡◌, ◌++◌, length, take}
use Rattle.sl_tmflow.specs.NormalForm.{normal_form}
use Rattle.sl_tmflow.proofs.reframe.reframe_tm.Given as goal

abbrev pub invariant-loop-pieces : goal.invariant-loop-pieces
invariant-loop-pieces l = l.form.items ++ l.pieces.left ≡ normal_form l.shape l.spacecraft (take 8 l.delivered.lists)

abbrev pub decreases-loop-pieces : goal.decreases-loop-pieces
decreases-loop-pieces l = length l.pieces.left
