use Rattle.std.proofs.Common.{◌≡◌, ◌-◌}
use Rattle.std.specs.List.{list_all, range_with_len}
use Rattle.sl_tmflow.specs.Recording.{virtual_channels}
use Rattle.sl_merge.specs.Merge.{is_merge_on}
use Rattle.sl_merge.specs.Told.{seen_on}
use Rattle.sl_merge.proofs.merge.is_merge_tm.Given as goal

-- the channels that are left decide
abbrev pub invariant-loop-vc : goal.invariant-loop-vc
invariant-loop-vc g l =
    list_all (λ vc. is_merge_on l.shape (seen_on vc l.told.items.items)) (range_with_len l.vc (8 - l.vc))
    ≡ list_all (λ vc. is_merge_on l.shape (seen_on vc l.told.items.items)) virtual_channels
