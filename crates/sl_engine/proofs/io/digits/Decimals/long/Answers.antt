use Rattle.std.proofs.Common.{arith}
use Rattle.sl_engine.proofs.lemmas.Io.Digits.{decimal_of_long}
use Rattle.sl_engine.proofs.io.digits.Decimals.long.Goals as goal

pub returns-clause-digits : goal.returns-clause-digits
returns-clause-digits c =
    let kept = c.args.self.now.leading in
    let whole = decimal_of_long c.args.number kept.number kept.least kept.of_long (omega (arith, c.if-number-self.false)) (omega (arith, c.if-last-ge10000.false)) c.ranges.number.fits in
    cc (kept.are_leading.digits, c.last_four-last.ensures, whole)
