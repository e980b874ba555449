use Rattle.std.proofs.lemmas.List.Sorted.{IsPermutation-trans}
use Rattle.sllink_merge.proofs.arrange.arrange.Goals as goal
use Rattle.sllink_merge.proofs.arrange.arrange.Goals.{then-place-gt1, else-place-gt1}

pub loop-place-preserved : goal.loop-place-preserved
loop-place-preserved g c = elim c.if-place-gt1.branch [
  | then-place-gt1 w ↦ rw w.recordings-is (IsPermutation-trans _ _ _ c.loop-place.invariant w.swap.ensures.permutation)
  | else-place-gt1 w ↦ rw w.recordings-is c.loop-place.invariant
]
