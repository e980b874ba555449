use Rattle.std.proofs.Common.{false, true}
use Rattle.sl_merge.proofs.CountLemmas.{IsCounted}
use Rattle.sl_merge.proofs.counts.count_fates.Given as goal

-- the channels that are left tell the rest
abbrev pub invariant-loop-vc : goal.invariant-loop-vc
invariant-loop-vc l =
    record {
      first : IsCounted false l.told.items.items l.vc l.first_left_out;
      second : IsCounted true l.told.items.items l.vc l.second_left_out;
    }
