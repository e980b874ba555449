use Rattle.std.proofs.Common.{IsPermutation}
use Rattle.sllink_merge.proofs.arrange.arrange.Given as goal

abbrev pub invariant-loop-place : goal.invariant-loop-place
invariant-loop-place g l = IsPermutation l.fn.recordings l.recordings
