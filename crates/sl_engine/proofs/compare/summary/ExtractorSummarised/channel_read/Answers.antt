use Rattle.std.proofs.Common.{◌∙◌, ap, sym}
use Rattle.sl_engine.specs.Compare.Signs.{with_channel}
use Rattle.sl_engine.specs.Compare.Summarised.{tm_begun}
use Rattle.sl_engine.specs.Kind.Tm.{TmFinding}
use Rattle.std.proofs.Common.{Some}
use Rattle.sl_engine.proofs.lemmas.Compare.Signs.{begun_next, found_channel, skipped_channel}
use Rattle.sl_engine.proofs.compare.summary.ExtractorSummarised.channel_read.Goals as goal

pub returns-in-Ok : goal.returns-in-Ok
returns-in-Ok c = λ p before frame is.
    begun_next p before frame
    ∙ ap (with_channel (tm_begun p before)) (found_channel p before frame c.in-Ok.found (sym c.in-Ok.is ∙ is) ∙ ap (λ (f : TmFinding). Some f.vc) (sym c.found.view_is))

pub returns-in-Err : goal.returns-in-Err
returns-in-Err c = λ p before frame is.
    begun_next p before frame ∙ ap (with_channel (tm_begun p before)) (skipped_channel p before frame c.in-Err.field-0 (sym c.in-Err.is ∙ is))
