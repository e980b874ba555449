use Rattle.std.proofs.Common.{◌<◌, length}
use Rattle.sllink_merge.proofs.arrange.closest_pair.Given as goal

abbrev pub invariant-loop-first : goal.invariant-loop-first
invariant-loop-first g l = record {
  first : l.closest.0 < length l.recordings;
  second : l.closest.1 < length l.recordings;
}
