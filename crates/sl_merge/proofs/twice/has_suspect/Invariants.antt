use Rattle.std.proofs.Common.{◌≡◌, drop}
use Rattle.std.specs.List.{list_any}
use Rattle.sl_merge.specs.Merge.{stands_twice}
use Rattle.sl_merge.proofs.twice.has_suspect.Given as goal

abbrev pub invariant-loop-item : goal.invariant-loop-item
invariant-loop-item g l = list_any (stands_twice l.items) (drop l.item-index l.items) ≡ list_any (stands_twice l.fn.items) l.fn.items
