use Rattle.std.proofs.Common.{◌≡◌, ◌≤◌, take}
use Rattle.std.specs.Prelude.{◌&&◌, is_none}
use Rattle.std.specs.List.{count_by}
use Rattle.sl_merge.specs.Merge.{is_left_out}
use Rattle.sl_merge.specs.Told.{turn_if}
use Rattle.sl_merge.specs.declared.item.Seen.{Seen}
use Rattle.sl_merge.proofs.counts.count_skipped.Given as goal

abbrev pub invariant-loop-one : goal.invariant-loop-one
invariant-loop-one l =
    record {
      few : l.skipped ≤ l.one-index;
      counted : l.skipped ≡ count_by (λ (s : Seen). is_left_out (turn_if l.is_turned s.item) && is_none s.vc) (take l.one-index l.seen);
    }
