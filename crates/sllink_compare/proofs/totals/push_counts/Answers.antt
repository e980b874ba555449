use Rattle.std.proofs.Common.{append_assoc}
use Rattle.sllink_compare.proofs.totals.push_counts.Goals as goal

pub returns : goal.returns
returns c =
    simp append_assoc (rw (c.frames-frames.ensures.value, c.skipped-skipped.ensures.value, c.packets-packets.ensures.value, c.idle-idle.ensures.value, c.anomalies-anomalies.ensures.value) at c.write.ensures.bytes)
