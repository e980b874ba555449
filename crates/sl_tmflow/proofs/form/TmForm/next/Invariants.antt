use Rattle.std.proofs.Common.{◌≡◌, ◌-◌, ◌≤◌}
use Rattle.std.specs.Vec.{vec_capacity}
use Rattle.sl_tmflow.specs.FormModel.{IsTmForm, octets_to_come}
use Rattle.sl_tmflow.proofs.form.TmForm.next.Given as goal

abbrev pub invariant-loop-field : goal.invariant-loop-field
invariant-loop-field l = record {
  left : octets_to_come l.self-inside ≡ l.fn.self.left;
  form : l.form.items ≡ l.fn.form.items;
  keeps : l.fn.self.capacity ≤ vec_capacity l.self-inside.octets;
  capacity : vec_capacity l.fn.form ≤ vec_capacity l.form;
  is : IsTmForm l.self-inside;
}

-- the virtual channels that are left
abbrev pub decreases-loop-field : goal.decreases-loop-field
decreases-loop-field l = 8 - l.self-inside.heading.vc
