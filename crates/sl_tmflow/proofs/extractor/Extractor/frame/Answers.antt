use Rattle.std.proofs.Common.{refl, sym, ◌∙◌, ap, arith}
use Rattle.sl_packet.proofs.StoppingLemmas.{counts_stopped}
use Rattle.std.specs.List.{slice_index_or}
use Rattle.sl_tmflow.specs.VirtualChannel.{views_on}
use Rattle.sl_tmflow.proofs.lemmas.Anomaly.{foreign_is, dropped_seen, gap_seen, incomplete_around}
use Rattle.sl_tmflow.proofs.lemmas.Delivery.Channel.{handed_now, processed_more, seen_at}
use Rattle.sl_tmflow.proofs.extractor.Extractor.frame.Goals as goal

pub returns-in-Err-clause-stopped : goal.returns-in-Err-clause-stopped
returns-in-Err-clause-stopped g c =
    λ ne. (
      refl,
      λ views p. (handed_now c.args.self.now views c.args.frame.now c.self.inside.channels c.from.result c.index-self-from.result (ap (λ s. s.channels) c.self.view_is) (omega arith) (omega arith) (omega arith) c.in-Err.ensures.hands_over p).stopped,
    )

pub returns-in-Ok-clause-processed : goal.returns-in-Ok-clause-processed
returns-in-Ok-clause-processed g c =
    λ views p. processed_more c.args.self.now views c.args.frame.now c.self.inside.channels c.from.result c.index-self-from.result c.take_frame.new.self p (ap (λ s. s.channels) c.self.view_is) (omega arith) (omega arith) (omega arith) c.in-Ok.ensures.state c.self.inside.has_failed (ap (λ s. s.has_failed) c.self.view_is ∙ p.working)

pub returns-in-Ok-clause-accepted : goal.returns-in-Ok-clause-accepted
returns-in-Ok-clause-accepted g c =
    λ views p. (handed_now c.args.self.now views c.args.frame.now c.self.inside.channels c.from.result c.index-self-from.result (ap (λ s. s.channels) c.self.view_is) (omega arith) (omega arith) (omega arith) c.in-Ok.ensures.hands_over p).accepted

pub returns-in-Ok-clause-packets : goal.returns-in-Ok-clause-packets
returns-in-Ok-clause-packets g c =
    λ views p. (handed_now c.args.self.now views c.args.frame.now c.self.inside.channels c.from.result c.index-self-from.result (ap (λ s. s.channels) c.self.view_is) (omega arith) (omega arith) (omega arith) c.in-Ok.ensures.hands_over p).packets

pub returns-in-Ok-clause-idle : goal.returns-in-Ok-clause-idle
returns-in-Ok-clause-idle g c =
    λ views p. (handed_now c.args.self.now views c.args.frame.now c.self.inside.channels c.from.result c.index-self-from.result (ap (λ s. s.channels) c.self.view_is) (omega arith) (omega arith) (omega arith) c.in-Ok.ensures.hands_over p).idle

pub returns-in-Ok-clause-gap : goal.returns-in-Ok-clause-gap
returns-in-Ok-clause-gap g c =
    λ views p. c.in-Ok.ensures.gap ∙ sym (gap_seen (slice_index_or c.self.inside.channels c.from.result c.index-self-from.result).state (views_on c.args.frame.now.vc views) c.args.frame.now
    (seen_at c.args.self.now views c.self.inside.channels c.from.result c.args.frame.now.vc c.index-self-from.result p (ap (λ s. s.channels) c.self.view_is) (omega arith) (omega arith) (omega arith)))

pub returns-in-Ok-clause-dropped : goal.returns-in-Ok-clause-dropped
returns-in-Ok-clause-dropped g c =
    λ views p. c.in-Ok.ensures.dropped ∙ sym (dropped_seen (slice_index_or c.self.inside.channels c.from.result c.index-self-from.result).state (views_on c.args.frame.now.vc views) c.args.frame.now
    (seen_at c.args.self.now views c.self.inside.channels c.from.result c.args.frame.now.vc c.index-self-from.result p (ap (λ s. s.channels) c.self.view_is) (omega arith) (omega arith) (omega arith)))

pub returns-in-Ok-clause-foreign : goal.returns-in-Ok-clause-foreign
returns-in-Ok-clause-foreign g c = c.in-Ok.ensures.foreign ∙ sym (foreign_is c.args.frame.now.field)

pub returns-in-Err-clause-memory : goal.returns-in-Err-clause-memory
returns-in-Err-clause-memory g c =
    λ memory views p. incomplete_around (slice_index_or c.self.inside.channels c.from.result c.index-self-from.result).state views c.args.frame.now
    (seen_at c.args.self.now views c.self.inside.channels c.from.result c.args.frame.now.vc c.index-self-from.result p (ap (λ s. s.channels) c.self.view_is) (omega arith) (omega arith) (omega arith))
    (c.in-Err.ensures.memory memory)

pub returns-in-Err-clause-counted : goal.returns-in-Err-clause-counted
returns-in-Err-clause-counted g c =
    counts_stopped g.S.PacketSink.taking g.S.PacketSink.failing g.S.PacketSink.failures c.args.sink.now _ _ c.in-Err.flow c.take_frame.new.sink c.in-Err.ensures.hands_over.stopped
