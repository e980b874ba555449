use Rattle.std.proofs.Common.{◌≡◌, ◌≤◌, ◌++◌, length, map}
use Rattle.std.specs.List.{concat}
use Rattle.std.specs.Vec.{vec_items, vec_capacity}
use Rattle.sl_tmflow.proofs.form.push_all.Given as goal

abbrev pub invariant-loop-packet : goal.invariant-loop-packet
invariant-loop-packet l = record {
  all : l.out.items ++ concat (map vec_items l.left) ≡ l.initial.out.items ++ concat (map vec_items l.initial.packets);
  capacity : vec_capacity l.initial.out ≤ vec_capacity l.out;
}

abbrev pub decreases-loop-packet : goal.decreases-loop-packet
decreases-loop-packet l = length l.left
