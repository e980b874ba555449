use Rattle.std.proofs.Common.{◌∷◌, take}
use Rattle.sllink_merge.specs.Run.{MergeAllTo, octets_of}
use Rattle.sllink_merge.proofs.merge.merge_all.Given as goal

abbrev pub invariant-loop-other : goal.invariant-loop-other
invariant-loop-other g l =
    MergeAllTo l.link l.first.octets.now (l.second.octets.now ∷ octets_of (take l.other-index l.others)) l.merge.is_sure l.merge.octets.items
