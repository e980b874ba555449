use Rattle.std.proofs.Common.{◌≡◌, ◌&&◌}
use Rattle.sllink_merge.proofs.MergeLemmas.{merges_on_same, sure_where, unsure_where}
use Rattle.sllink_merge.proofs.merge.add.Goals as goal
use Rattle.sllink_merge.proofs.merge.add.Goals.{then-merge, else-merge}

pub returns-after-merge : goal.returns-after-merge
returns-after-merge g c =
    let sure_is : c.if-merge.merge ≡ (c.args.merge.now.is_sure && c.in-Ok.is_sure) =
    elim c.if-merge.branch [
      | then-merge w ↦ sure_where w.if-merge.true w.merge-is
      | else-merge w ↦ unsure_where c.in-Ok.is_sure w.if-merge.false w.merge-is
    ] in
    merges_on_same c.as_slice.ensures.value c.in-Ok.ensures sure_is
