use Rattle.std.proofs.Common.{◌+◌, ◌<◌, ◌≤◌, ◌++◌, IfSome, length, vec_len}
use Rattle.std.specs.Vec.{vec_capacity}
use Rattle.sl_tmframe.specs.PacketFrame.{field_room_of}
use Rattle.sl_tmflow.specs.Form.{frames_len, filled_frames}
use Rattle.sl_tmflow.proofs.lemmas.Form.Frames.{IsCounted, IsPushing}
use Rattle.sl_tmflow.proofs.form.push_fields.Given as goal

abbrev pub invariant-loop-left : goal.invariant-loop-left
invariant-loop-left l =
    IsPushing l.shape l.heading (l.initial.form.items ++ filled_frames l.shape l.initial.heading l.initial.packets.first l.initial.packets.octets.now)
    (vec_len l.initial.form + frames_len l.shape l.initial.packets.octets.now) l.first l.left l.form.items (vec_len l.form)
    × ((vec_capacity l.initial.form ≤ vec_capacity l.form) × (IsCounted l.shape l.initial.packets.octets.now l.left l.frames × (IfSome l.first (λ first. first < field_room_of l.shape)
    × ((l.heading.spacecraft ≤ 1023) × (l.heading.vc ≤ 7)))))

abbrev pub decreases-loop-left : goal.decreases-loop-left
decreases-loop-left l = length l.left
