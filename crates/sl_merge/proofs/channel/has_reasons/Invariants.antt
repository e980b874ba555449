use Rattle.std.proofs.Common.{◌≡◌, ◌≤◌, drop}
use Rattle.sl_merge.specs.Merge.{has_reasons, stretches, without_repeats}
use Rattle.sl_merge.specs.Told.{from_side}
use Rattle.sl_merge.proofs.ReasonLemmas.{judge}
use Rattle.sl_merge.proofs.channel.has_reasons.Given as goal

abbrev pub invariant-loop-item : goal.invariant-loop-item
invariant-loop-item l =
    record {
      left_out : l.tally.left_out ≤ l.item-index;
      others : l.tally.others ≤ l.item-index;
      judged : judge l.most l.tally.after l.tally.left_out l.tally.others
          (stretches (without_repeats l.before (from_side l.is_turned (drop l.item-index l.items))))
          ≡ has_reasons l.fn.most (from_side l.fn.is_turned l.fn.items);
    }
