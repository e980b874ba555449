use Rattle.std.proofs.Common.{append_assoc, refl}
use Rattle.sl_engine.proofs.verbs.check.lines.push_totals.Goals as goal

pub returns : goal.returns
returns c =
    rw (c.push.ensures, c.push_part-5.ensures.text, c.push_part-4.ensures.text, c.push_part-3.ensures.text, c.push_part-2.ensures.text, c.push_part.ensures.text)
    (simp append_assoc (rw (c.frames.ensures.value, c.skipped.ensures.value, c.packets.ensures.value, c.idle.ensures.value, c.anomalies.ensures.value) refl))
