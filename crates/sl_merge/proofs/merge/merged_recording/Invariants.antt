use Rattle.std.proofs.Common.{◌≡◌, ◌++◌, drop}
use Rattle.sl_tmframe.specs.TmDelimited.{tm_frames_of}
use Rattle.sl_merge.specs.Fates.{merged_octets, octets_of, standing, taken}
use Rattle.sl_merge.proofs.merge.merged_recording.Given as goal

-- what was merged, and what stands of the frames that the fates which are left take
abbrev pub invariant-loop-fate : goal.invariant-loop-fate
invariant-loop-fate l =
    l.merged.items ++ octets_of (standing (taken (drop l.fate-index l.fates) (tm_frames_of l.shape.len l.firsts) (tm_frames_of l.shape.len l.seconds)))
    ≡ merged_octets l.fn.shape.len l.fn.one l.fn.other l.fn.fates
