use Rattle.std.proofs.Common.{◌∙◌, ap, arith}
use Rattle.std.specs.List.{slice_index_or}
use Rattle.sl_tmflow.specs.VirtualChannel.{views_on}
use Rattle.sl_tmflow.proofs.lemmas.Delivery.Channel.{seen_at}
use Rattle.sl_tmflow.proofs.lemmas.Anomaly.{held_seen}
use Rattle.sl_tmflow.proofs.extractor.Extractor.held.Goals as goal

pub returns-clause-value : goal.returns-clause-value
returns-clause-value c =
    λ views p. c.held.ensures.value ∙ held_seen (slice_index_or c.self.inside.channels c.from.result c.index-self-from.result).state (views_on c.args.vc views)
    (seen_at c.args.self.now views c.self.inside.channels c.from.result c.args.vc c.index-self-from.result p (ap (λ s. s.channels) c.self.view_is) (omega arith) (omega arith) (omega arith))
