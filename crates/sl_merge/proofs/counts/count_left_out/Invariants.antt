use Rattle.std.proofs.Common.{◌≡◌, ◌≤◌, ◌+◌, drop}
use Rattle.std.specs.List.{count_by}
use Rattle.sl_merge.specs.Merge.{is_left_out, left_out_of, without_repeats}
use Rattle.sl_merge.specs.Told.{from_side}
use Rattle.sl_merge.proofs.counts.count_left_out.Given as goal

abbrev pub invariant-loop-item : goal.invariant-loop-item
invariant-loop-item l =
    record {
      few : l.repeats + l.stretches ≤ l.item-index;
      others : l.stretches + count_by is_left_out (without_repeats l.before (from_side l.is_turned (drop l.item-index l.items)))
          ≡ left_out_of (from_side l.fn.is_turned l.fn.items);
      all : l.repeats + l.stretches + count_by is_left_out (from_side l.is_turned (drop l.item-index l.items))
          ≡ count_by is_left_out (from_side l.fn.is_turned l.fn.items);
    }
