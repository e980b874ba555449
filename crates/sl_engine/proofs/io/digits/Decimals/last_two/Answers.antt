use Rattle.std.proofs.Common.{◌≡◌, ◌+◌, [], arith, slice_index_or, subst}
use Rattle.sl_engine.specs.Io.Digits.{AreDigits}
use Rattle.sl_engine.proofs.lemmas.Io.Digits.{ends_over_hundred}
use Rattle.sl_engine.proofs.io.digits.Decimals.last_two.Goals as goal

pub returns : goal.returns
returns c =
    let places = slice_index_or c.args.self.now.octets c.from.result [] in
    let here : c.from.result ≡ 100 + c.args.number = omega (arith, c.from.ensures) in
    ends_over_hundred c.args.number places c.requires
    (subst (λ k. AreDigits k places) here (c.args.self.now.in_decimal c.from.result (omega (arith, here, c.requires))))
