use Rattle.std.proofs.Common.{◌≡◌, ◌≤◌, take}
use Rattle.std.specs.List.{count_by}
use Rattle.sl_merge.specs.Merge.{is_first_alone}
use Rattle.sl_merge.specs.Told.{turn_if}
use Rattle.sl_merge.specs.declared.item.Seen.{Seen}
use Rattle.sl_merge.proofs.counts.count_alone.Given as goal

abbrev pub invariant-loop-one : goal.invariant-loop-one
invariant-loop-one l =
    record {
      few : l.alone ≤ l.one-index;
      counted : l.alone ≡ count_by (λ (s : Seen). is_first_alone (turn_if l.is_turned s.item).fate) (take l.one-index l.seen);
    }
