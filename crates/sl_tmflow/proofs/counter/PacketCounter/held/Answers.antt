use Rattle.std.proofs.Common.{◌∙◌, arith}
use Rattle.sl_tmflow.proofs.lemmas.Outline.{outline_at}
use Rattle.sl_tmflow.proofs.counter.PacketCounter.held.Goals as goal

pub returns-clause-value : goal.returns-clause-value
returns-clause-value c =
    λ views p. let outlines = outline_at c.args.self.now views c.from.result c.args.vc c.index-self-from.result p (omega arith) (omega arith) in
    c.held.ensures.value ∙ outlines.held.count
