use Rattle.sllink_merge.proofs.MergeLemmas.{merged_more}
use Rattle.sllink_merge.proofs.merge.merge_all.Goals as goal

pub loop-other-preserved : goal.loop-other-preserved
loop-other-preserved g c =
    merged_more c.args.others.now c.loop-other.other-index _ c.loop-other-test.true c.loop-other.invariant c.in_default.ensures
