use Rattle.std.proofs.Common.{◌≤◌, length, vec_len}
use Rattle.std.specs.Vec.{vec_capacity}
use Rattle.sl_tcframe.specs.AdFrame.{segment_room_of}
use Rattle.sl_tcflow.proofs.lemmas.Form.Pushed.{IsDivided, AreFew}
use Rattle.sl_tcflow.proofs.frames.push_packet.Given as goal

abbrev pub invariant-loop-left : goal.invariant-loop-left
invariant-loop-left l =
    IsDivided l.shape l.heading.spacecraft l.vc l.map_id l.initial.form.items l.initial.ns (segment_room_of l.shape) l.packet l.left l.ns l.form.items
    × AreFew (vec_len l.initial.form) (length l.packet) (vec_len l.form) (length l.left) × (vec_capacity l.initial.form ≤ vec_capacity l.form)

abbrev pub decreases-loop-left : goal.decreases-loop-left
decreases-loop-left l = length l.left
