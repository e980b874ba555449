use Rattle.std.proofs.Common.{codes, nat_lt, None, Some, subst}
use Rattle.sl_tmflow.specs.VirtualChannel.{views_of}
use Rattle.sl_engine.specs.Compare.Words.{IsOneLine}
use Rattle.sl_engine.specs.Link.Managed.{tm_format}
use Rattle.sl_engine.proofs.lemmas.Compare.Words.{open_one}
use Rattle.sl_engine.proofs.lemmas.Verbs.Check.FewTm.{open_is}
use Rattle.sl_engine.proofs.compare.summary.ExtractorSummarised.is_incomplete.Goals as goal

pub returns : goal.returns
returns c = λ p offset frames small h.
    let held = c.held.ensures.value (views_of (tm_format p) p.spacecraft frames) h.processed in
    subst (λ lines. IsOneLine (codes "open") lines (nat_lt 0 c.held.result)) (open_is p offset c.args.channel frames held)
    (open_one offset small c.args.channel None (Some c.held.result) (nat_lt 0 c.held.result))
