use Rattle.std.proofs.Common.{◌≡◌, [], ◌∷◌, ◌++◌, ◌%◌, ◌<◌, ◌∙◌, ℕ, List, ap, arith, slice_index_or, sym}
use Rattle.sl_engine.specs.Io.Digits.{four_digits}
use Rattle.sl_engine.proofs.lemmas.Io.Digits.{decimal_by_four, decimal_of_four, decimal_of_three}
use Rattle.sl_engine.proofs.io.lines.Lines.push_large_number.Goals as goal

pub returns-in-Some-clause-text : goal.returns-in-Some-clause-text
returns-in-Some-clause-text c =
    let whole = decimal_by_four c.args.number (omega (arith, c.if-number-ge10000.true)) c.ranges.number.fits in
    cc (c.push_both.ensures.text, c.in-Some.ensures.digits, c.last_four-last.ensures, whole)

pub returns-in-None-clause-text : goal.returns-in-None-clause-text
returns-in-None-clause-text c =
    let whole = decimal_by_four c.args.number (omega (arith, c.if-number-ge10000.true)) c.ranges.number.fits in
    cc (c.push_anew.ensures.text, c.last_four-last.ensures, whole)

short : (n : ℕ) (last : List ℕ) → n < 10000 → last ≡ four_digits (n % 10000) → last ≡ four_digits n
short n last few end =
    let same : n % 10000 ≡ n = omega (arith, few) in
    end ∙ ap four_digits same

pub returns-then-number-ge1000-clause-text : goal.returns-then-number-ge1000-clause-text
returns-then-number-ge1000-clause-text c =
    let few : c.args.number < 10000 = omega (arith, c.if-number-ge10000.false) in
    let whole = decimal_of_four c.args.number (omega (arith, c.if-number-ge1000.true)) few in
    let last = short c.args.number _ few c.last_four-last.ensures in
    cc (c.push.ensures, last, whole)

pub returns-else-number-ge1000-clause-text : goal.returns-else-number-ge1000-clause-text
returns-else-number-ge1000-clause-text c =
    c.push-else-number-ge1000.ensures
    ∙ ap (λ (d : List ℕ). c.args.self.now ++ d)
    (ap (λ (d : List ℕ). slice_index_or d 1 0 ∷ slice_index_or d 2 0 ∷ slice_index_or d 3 0 ∷ [])
    (short c.args.number _ (omega (arith, c.if-number-ge10000.false)) c.last_four-last.ensures)
    ∙ sym (decimal_of_three c.args.number c.requires.large (omega (arith, c.if-number-ge1000.false))))
