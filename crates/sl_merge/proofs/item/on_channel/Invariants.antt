use Rattle.std.proofs.Common.{◌≡◌, ◌++◌, drop}
use Rattle.sl_merge.specs.Told.{seen_on}
use Rattle.sl_merge.proofs.item.on_channel.Given as goal

abbrev pub invariant-loop-one : goal.invariant-loop-one
invariant-loop-one l = l.channel.items ++ seen_on l.vc (drop l.one-index l.seen) ≡ seen_on l.fn.vc l.fn.seen
