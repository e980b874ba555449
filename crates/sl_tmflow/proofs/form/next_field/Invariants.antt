use Rattle.std.proofs.Common.{◌≡◌, ◌+◌, ◌<◌, ◌++◌, length, map, take}
use Rattle.std.specs.List.{concat}
use Rattle.std.specs.Vec.{vec_items}
use Rattle.sl_tmflow.proofs.form.next_field.Given as goal

abbrev pub invariant-loop-packet : goal.invariant-loop-packet
invariant-loop-packet l = record {
  divided : l.packets ≡ take l.inside l.packets ++ l.left;
  counted : l.inside + length l.left ≡ length l.packets;
  sum : length (concat (map vec_items (take l.inside l.packets))) + l.missing ≡ l.wanted;
  some : 0 < l.missing;
}

abbrev pub decreases-loop-packet : goal.decreases-loop-packet
decreases-loop-packet l = length l.left
