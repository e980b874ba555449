use Rattle.std.proofs.Common.{◌∙◌, length, sym, ap, refl, arith}
use Rattle.sl_packet.specs.Packets.{only_idle, without_idle}
use Rattle.sl_tmflow.specs.VirtualChannel.{views_on}
use Rattle.sl_tmflow.proofs.lemmas.Anomaly.{dropped_seen, foreign_is}
use Rattle.sl_tmflow.proofs.lemmas.Outline.{counted_more, ended_after, outline_at, seen_after, state_after}
use Rattle.sl_tmflow.proofs.counter.PacketCounter.frame.Goals as goal

pub returns-clause-processed : goal.returns-clause-processed
returns-clause-processed c =
    λ views p. counted_more c.args.self.now _ views c.args.frame.now c.from.result c.take_frame.new.self p (omega arith) (omega arith) (omega arith) refl
    (c.take_frame.ensures.state (state_after (views_on c.args.frame.now.vc views)) (outline_at c.args.self.now views c.from.result c.args.frame.now.vc c.index-self-from.result p (omega arith) (omega arith)))

pub returns-clause-packets : goal.returns-clause-packets
returns-clause-packets c =
    λ views p. c.take_frame.ensures.packets (state_after (views_on c.args.frame.now.vc views)) (outline_at c.args.self.now views c.from.result c.args.frame.now.vc c.index-self-from.result p (omega arith) (omega arith))
    ∙ ap (λ l. length (without_idle l)) (ended_after (views_on c.args.frame.now.vc views) c.args.frame.now)

pub returns-clause-idle : goal.returns-clause-idle
returns-clause-idle c =
    λ views p. c.take_frame.ensures.idle (state_after (views_on c.args.frame.now.vc views)) (outline_at c.args.self.now views c.from.result c.args.frame.now.vc c.index-self-from.result p (omega arith) (omega arith))
    ∙ ap (λ l. length (only_idle l)) (ended_after (views_on c.args.frame.now.vc views) c.args.frame.now)

pub returns-clause-gap : goal.returns-clause-gap
returns-clause-gap c =
    λ views p. c.take_frame.ensures.gap (state_after (views_on c.args.frame.now.vc views)) (outline_at c.args.self.now views c.from.result c.args.frame.now.vc c.index-self-from.result p (omega arith) (omega arith))

pub returns-clause-dropped : goal.returns-clause-dropped
returns-clause-dropped c =
    λ views p. let channel = views_on c.args.frame.now.vc views in
    c.take_frame.ensures.dropped (state_after channel) (outline_at c.args.self.now views c.from.result c.args.frame.now.vc c.index-self-from.result p (omega arith) (omega arith))
    ∙ sym (dropped_seen (state_after channel) channel c.args.frame.now (seen_after channel))

pub returns-clause-foreign : goal.returns-clause-foreign
returns-clause-foreign c = c.take_frame.ensures.foreign ∙ sym (foreign_is c.args.frame.now.field)
