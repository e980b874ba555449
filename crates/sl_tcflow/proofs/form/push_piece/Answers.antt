use Rattle.std.proofs.Common.{◌∙◌, ◌++◌, ap, arith, sym}
use Rattle.sl_tcflow.proofs.lemmas.Form.Left.{piece_some, piece_whole}
use Rattle.sl_tcflow.proofs.lemmas.Series.Part.{packet_size}
use Rattle.sl_tcflow.proofs.form.push_piece.Goals as goal

pub returns-then-heading-clause-frames : goal.returns-then-heading-clause-frames
returns-then-heading-clause-frames c =
    c.in_ok-push_tc_plain.ensures.added ∙ ap (λ l. c.args.form.now.items ++ l)
    (sym (piece_whole c.args.shape.now c.args.heading.spacecraft c.args.heading.plain c.args.heading.channel c.args.heading.ns c.args.packet.now c.if-heading.true (omega arith)))

pub returns-in-Ok-clause-some : goal.returns-in-Ok-clause-some
returns-in-Ok-clause-some c =
    piece_some c.args.shape.now c.args.heading.spacecraft c.args.heading.plain c.args.heading.channel c.args.heading.ns c.args.packet.now c.push_packet.ensures.room (packet_size c.args.packet.now c.requires.deliverable.0).0

pub returns-in-Err-clause-some : goal.returns-in-Err-clause-some
returns-in-Err-clause-some c =
    piece_some c.args.shape.now c.args.heading.spacecraft c.args.heading.plain c.args.heading.channel c.args.heading.ns c.args.packet.now c.push_packet.ensures.room (packet_size c.args.packet.now c.requires.deliverable.0).0
