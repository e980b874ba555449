use Rattle.std.proofs.Common.{◌≡◌, ◌++◌, length}
use Rattle.sl_tcflow.specs.TcNormalForm.{tc_normal_form_of}
use Rattle.sl_tcflow.proofs.reframe.reframe_tc.Given as goal

abbrev pub invariant-loop-form : goal.invariant-loop-form
invariant-loop-form l = l.form.items ++ l.pieces ≡ tc_normal_form_of l.shape l.spacecraft l.starts l.plain l.delivered.lists

abbrev pub decreases-loop-form : goal.decreases-loop-form
decreases-loop-form l = length l.pieces
