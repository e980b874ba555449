use Rattle.std.proofs.Common.{◌≡◌, ◌≤◌, take}
use Rattle.std.specs.List.{count_by}
use Rattle.sl_merge.specs.Merge.{is_both}
use Rattle.sl_merge.specs.declared.item.Seen.{Seen}
use Rattle.sl_merge.proofs.counts.count_both.Given as goal

abbrev pub invariant-loop-one : goal.invariant-loop-one
invariant-loop-one l =
    record { few : l.both ≤ l.one-index; counted : l.both ≡ count_by (λ (s : Seen). is_both s.item.fate) (take l.one-index l.seen) }
