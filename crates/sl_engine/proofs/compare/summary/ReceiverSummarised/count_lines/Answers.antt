use Rattle.std.proofs.Common.{◌≡◌, ◌++◌, ◌∷◌, [], ◌∙◌, ap, arith, codes, length, Result, sym, subst}
use Rattle.sl_tcframe.specs.declared.tc_frame.TcSkip.{TcSkip}
use Rattle.sl_engine.specs.Compare.Words.{word_counts}
use Rattle.sl_engine.specs.Io.Words.{line_at, tc_skip_word}
use Rattle.sl_engine.specs.Kind.Tc.{TcFinding}
use Rattle.sl_engine.specs.Verbs.Check.Tc.{tc_anomaly_lines}
use Rattle.sl_engine.proofs.lemmas.Compare.Words.{tc_skip_one}
use Rattle.sl_engine.proofs.lemmas.Verbs.Check.FewTc.{few_lines}
use Rattle.sl_engine.proofs.compare.summary.ReceiverSummarised.count_lines.Goals as goal

pub add-requires : goal.add-requires
add-requires c = (c.requires.0, line_at 0 (codes " skip " ++ tc_skip_word c.in-Err.field-0) ∷ [], c.requires.1, tc_skip_one 0 (omega arith) c.in-Err.field-0, omega (arith, c.requires.2))

pub returns-in-Ok-clause-few : goal.returns-in-Ok-clause-few
returns-in-Ok-clause-few c = λ p before frame whole long is.
    omega (arith, c.count_tc.ensures.number 0 (omega arith), ap (λ (r : Result TcFinding TcSkip). length (tc_anomaly_lines 0 r)) (sym c.in-Ok.is ∙ is), few_lines 0 p before frame whole long)

pub returns-in-Err-clause-words : goal.returns-in-Err-clause-words
returns-in-Err-clause-words c = λ lines offset small is.
    subst (λ (r : Result TcFinding TcSkip). c.add.new.self ≡ word_counts (lines ++ tc_anomaly_lines offset r)) (sym c.in-Err.is) (c.add.ensures.counted lines _ is (tc_skip_one offset small c.in-Err.field-0))

pub returns-in-Err-clause-number : goal.returns-in-Err-clause-number
returns-in-Err-clause-number c = λ offset small.
    subst (λ (r : Result TcFinding TcSkip). c.add.result ≡ length (tc_anomaly_lines offset r)) (sym c.in-Err.is) (c.add.ensures.number _ (tc_skip_one offset small c.in-Err.field-0))
