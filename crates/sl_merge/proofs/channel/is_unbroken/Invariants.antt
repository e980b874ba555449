use Rattle.std.proofs.Common.{◌≡◌, drop, None, false}
use Rattle.sl_merge.specs.Merge.{is_unbroken}
use Rattle.sl_merge.specs.Told.{from_side}
use Rattle.sl_merge.proofs.channel.is_unbroken.Given as goal

abbrev pub invariant-loop-item : goal.invariant-loop-item
invariant-loop-item l =
    is_unbroken l.run.last l.run.between (from_side l.is_turned (drop l.item-index l.items))
    ≡ is_unbroken None false (from_side l.fn.is_turned l.fn.items)
