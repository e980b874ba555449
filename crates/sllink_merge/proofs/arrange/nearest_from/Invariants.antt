use Rattle.std.proofs.Common.{◌<◌, length}
use Rattle.sllink_merge.proofs.arrange.nearest_from.Given as goal

abbrev pub invariant-loop-other : goal.invariant-loop-other
invariant-loop-other g l = l.nearest < length l.recordings
