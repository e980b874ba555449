use Rattle.std.proofs.Common.{◌∙◌, refl, sym}
use Rattle.sl_io.specs.declared.fault.LinkFault.TheVariants.{Memory}
use Rattle.sllink_compare.proofs.RunLemmas.{answer_stops, none_asked, open_asked, question_status, question_stops, question_written, totals_stop, written_both}
use Rattle.sllink_compare.proofs.run.answer.Goals as goal

pub returns-in-Err-clause-stopped : goal.returns-in-Err-clause-stopped
returns-in-Err-clause-stopped g c =
    λ is. (
      c.in-Err.fault,
      c.report_fault.ensures.said,
      λ firsts seconds s.
          totals_stop c.args.comparison.now c.args.names.now c.args.compared.now.answer c.args.compared.now.first c.args.compared.now.second firsts seconds c.in-Err.ensures.stopped,
    )

pub returns-in-Some-clause-ended : goal.returns-in-Some-clause-ended
returns-in-Some-clause-ended g c =
    λ ended firsts seconds s.
    question_written c.args.comparison.now c.args.names.now c.args.compared.now.answer c.args.compared.now.first c.args.compared.now.second firsts seconds
    (sym c.open_question.ensures ∙ c.in-Some.is) c.in_default.ensures.written

pub returns-in-Some-clause-status : goal.returns-in-Some-clause-status
returns-in-Some-clause-status g c =
    λ ended. question_status c.args.compared.now.answer (sym c.open_question.ensures ∙ c.in-Some.is) c.ask.ensures.status ended

pub returns-in-Some-clause-asked : goal.returns-in-Some-clause-asked
returns-in-Some-clause-asked g c =
    λ ended.
    open_asked c.args.comparison.now c.args.names.now c.args.compared.now.first c.args.compared.now.second (sym c.open_question.ensures ∙ c.in-Some.is) (c.ask.ensures.said ended)

pub returns-in-Some-clause-stopped : goal.returns-in-Some-clause-stopped
returns-in-Some-clause-stopped g c =
    λ is. (
      Memory,
      c.ask.ensures.stopped is,
      λ firsts seconds s.
          question_stops c.args.comparison.now c.args.names.now c.args.compared.now.answer c.args.compared.now.first c.args.compared.now.second firsts seconds c.in_default.ensures.written,
    )

pub returns-in-Ok-clause-ended : goal.returns-in-Ok-clause-ended
returns-in-Ok-clause-ended g c =
    λ ended firsts seconds s.
    written_both c.args.comparison.now c.args.names.now c.args.compared.now.answer c.args.compared.now.first c.args.compared.now.second firsts seconds
    (sym c.open_question.ensures ∙ c.in_default-open_question.is) c.in_default.ensures.written (c.in-Ok.ensures.written firsts seconds s)

pub returns-in-Ok-clause-asked : goal.returns-in-Ok-clause-asked
returns-in-Ok-clause-asked g c =
    λ ended.
    none_asked _ c.args.comparison.now c.args.names.now c.args.compared.now.first c.args.compared.now.second (sym c.open_question.ensures ∙ c.in_default-open_question.is) refl

pub returns-in-Err-write_answer-clause-stopped : goal.returns-in-Err-write_answer-clause-stopped
returns-in-Err-write_answer-clause-stopped g c =
    λ is. (
      c.in-Err-write_answer.fault,
      c.report_fault-in-Err-write_answer.ensures.said,
      λ firsts seconds s.
          answer_stops c.args.comparison.now c.args.names.now c.args.compared.now.answer c.args.compared.now.first c.args.compared.now.second firsts seconds
          (sym c.open_question.ensures ∙ c.in_default-open_question.is) c.in_default.ensures.written (c.in-Err-write_answer.ensures.stopped firsts seconds s),
    )
