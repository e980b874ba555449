use Rattle.std.proofs.Common.{◌≡◌, drop}
use Rattle.std.specs.List.{list_all}
use Rattle.sl_merge.specs.Merge.{is_none_twice}
use Rattle.sl_merge.specs.Twice.{is_excused}
use Rattle.sl_merge.proofs.twice.are_excused.Given as goal

abbrev pub invariant-loop-item : goal.invariant-loop-item
invariant-loop-item g l = list_all (is_excused l.shape l.items) (drop l.item-index l.items) ≡ is_none_twice l.fn.shape l.fn.items
