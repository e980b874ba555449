use Rattle.std.proofs.Common.{◌≡◌, ◌^◌, ◌<◌, ◌++◌, arith, length, refl, subst}
use Rattle.sl_cop.specs.declared.verdict.Verdict.TheVariants.{Early, Late, Outside, Refused}
use Rattle.sl_engine.specs.Compare.Summarised.{discarded_lines}
use Rattle.sl_engine.specs.Compare.Words.{IsOneLine, word_counts}
use Rattle.sl_engine.specs.Io.Words.{verdict_word}
use Rattle.sl_engine.specs.Kind.FoundModel.{tc_finding}
use Rattle.sl_engine.specs.Kind.Tc.{TcFinding}
use Rattle.sl_engine.proofs.lemmas.Compare.Words.{discarded_one, one_discarded}
use Rattle.sl_engine.proofs.compare.summary.count_discarded.Goals as goal

pub add-requires : goal.add-requires
add-requires c =
    let f = tc_finding c.found.inside in
    let small : 0 < 2 ^ 64 = omega arith in
    let one : IsOneLine (verdict_word Early) (discarded_lines 0 f) c.is_some-is_ad.result = rw c.is_some-is_ad.ensures (discarded_one 0 small f Early c.in-Early.is refl) in
    (c.requires.0, discarded_lines 0 f, c.requires.1, one, omega (arith, c.requires.2, one_discarded 0 small f))

pub returns-in-Early-clause-words : goal.returns-in-Early-clause-words
returns-in-Early-clause-words c = λ lines offset small is.
    let f = tc_finding c.found.inside in
    let one : IsOneLine (verdict_word Early) (discarded_lines offset f) c.is_some-is_ad.result = rw c.is_some-is_ad.ensures (discarded_one offset small f Early c.in-Early.is refl) in
    subst (λ (found : TcFinding). c.add.new.self ≡ word_counts (lines ++ discarded_lines offset found)) c.found.view_is (c.add.ensures.counted lines (discarded_lines offset f) is one)

pub returns-in-Early-clause-number : goal.returns-in-Early-clause-number
returns-in-Early-clause-number c = λ offset small.
    let f = tc_finding c.found.inside in
    let one : IsOneLine (verdict_word Early) (discarded_lines offset f) c.is_some-is_ad.result = rw c.is_some-is_ad.ensures (discarded_one offset small f Early c.in-Early.is refl) in
    subst (λ (found : TcFinding). c.add.result ≡ length (discarded_lines offset found)) c.found.view_is (c.add.ensures.number (discarded_lines offset f) one)

pub add-requires-in-Late : goal.add-requires-in-Late
add-requires-in-Late c =
    let f = tc_finding c.found.inside in
    let small : 0 < 2 ^ 64 = omega arith in
    let one : IsOneLine (verdict_word Late) (discarded_lines 0 f) c.is_some-is_ad.result = rw c.is_some-is_ad.ensures (discarded_one 0 small f Late c.in-Late.is refl) in
    (c.requires.0, discarded_lines 0 f, c.requires.1, one, omega (arith, c.requires.2, one_discarded 0 small f))

pub returns-in-Late-clause-words : goal.returns-in-Late-clause-words
returns-in-Late-clause-words c = λ lines offset small is.
    let f = tc_finding c.found.inside in
    let one : IsOneLine (verdict_word Late) (discarded_lines offset f) c.is_some-is_ad.result = rw c.is_some-is_ad.ensures (discarded_one offset small f Late c.in-Late.is refl) in
    subst (λ (found : TcFinding). c.add-in-Late.new.self ≡ word_counts (lines ++ discarded_lines offset found)) c.found.view_is (c.add-in-Late.ensures.counted lines (discarded_lines offset f) is one)

pub returns-in-Late-clause-number : goal.returns-in-Late-clause-number
returns-in-Late-clause-number c = λ offset small.
    let f = tc_finding c.found.inside in
    let one : IsOneLine (verdict_word Late) (discarded_lines offset f) c.is_some-is_ad.result = rw c.is_some-is_ad.ensures (discarded_one offset small f Late c.in-Late.is refl) in
    subst (λ (found : TcFinding). c.add-in-Late.result ≡ length (discarded_lines offset found)) c.found.view_is (c.add-in-Late.ensures.number (discarded_lines offset f) one)

pub add-requires-in-Outside : goal.add-requires-in-Outside
add-requires-in-Outside c =
    let f = tc_finding c.found.inside in
    let small : 0 < 2 ^ 64 = omega arith in
    let one : IsOneLine (verdict_word Outside) (discarded_lines 0 f) c.is_some-is_ad.result = rw c.is_some-is_ad.ensures (discarded_one 0 small f Outside c.in-Outside.is refl) in
    (c.requires.0, discarded_lines 0 f, c.requires.1, one, omega (arith, c.requires.2, one_discarded 0 small f))

pub returns-in-Outside-clause-words : goal.returns-in-Outside-clause-words
returns-in-Outside-clause-words c = λ lines offset small is.
    let f = tc_finding c.found.inside in
    let one : IsOneLine (verdict_word Outside) (discarded_lines offset f) c.is_some-is_ad.result = rw c.is_some-is_ad.ensures (discarded_one offset small f Outside c.in-Outside.is refl) in
    subst (λ (found : TcFinding). c.add-in-Outside.new.self ≡ word_counts (lines ++ discarded_lines offset found)) c.found.view_is (c.add-in-Outside.ensures.counted lines (discarded_lines offset f) is one)

pub returns-in-Outside-clause-number : goal.returns-in-Outside-clause-number
returns-in-Outside-clause-number c = λ offset small.
    let f = tc_finding c.found.inside in
    let one : IsOneLine (verdict_word Outside) (discarded_lines offset f) c.is_some-is_ad.result = rw c.is_some-is_ad.ensures (discarded_one offset small f Outside c.in-Outside.is refl) in
    subst (λ (found : TcFinding). c.add-in-Outside.result ≡ length (discarded_lines offset found)) c.found.view_is (c.add-in-Outside.ensures.number (discarded_lines offset f) one)

pub add-requires-in-Refused : goal.add-requires-in-Refused
add-requires-in-Refused c =
    let f = tc_finding c.found.inside in
    let small : 0 < 2 ^ 64 = omega arith in
    let one : IsOneLine (verdict_word Refused) (discarded_lines 0 f) c.is_some-is_ad.result = rw c.is_some-is_ad.ensures (discarded_one 0 small f Refused c.in-Refused.is refl) in
    (c.requires.0, discarded_lines 0 f, c.requires.1, one, omega (arith, c.requires.2, one_discarded 0 small f))

pub returns-in-Refused-clause-words : goal.returns-in-Refused-clause-words
returns-in-Refused-clause-words c = λ lines offset small is.
    let f = tc_finding c.found.inside in
    let one : IsOneLine (verdict_word Refused) (discarded_lines offset f) c.is_some-is_ad.result = rw c.is_some-is_ad.ensures (discarded_one offset small f Refused c.in-Refused.is refl) in
    subst (λ (found : TcFinding). c.add-in-Refused.new.self ≡ word_counts (lines ++ discarded_lines offset found)) c.found.view_is (c.add-in-Refused.ensures.counted lines (discarded_lines offset f) is one)

pub returns-in-Refused-clause-number : goal.returns-in-Refused-clause-number
returns-in-Refused-clause-number c = λ offset small.
    let f = tc_finding c.found.inside in
    let one : IsOneLine (verdict_word Refused) (discarded_lines offset f) c.is_some-is_ad.result = rw c.is_some-is_ad.ensures (discarded_one offset small f Refused c.in-Refused.is refl) in
    subst (λ (found : TcFinding). c.add-in-Refused.result ≡ length (discarded_lines offset found)) c.found.view_is (c.add-in-Refused.ensures.number (discarded_lines offset f) one)
