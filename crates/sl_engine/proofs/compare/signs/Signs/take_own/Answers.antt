use Rattle.std.proofs.Common.{◌∙◌, ap, arith, refl, sym, ◌+◌}
use Rattle.sl_engine.proofs.lemmas.Compare.Signs.{byte_is, few_byte, long_fits, own_fits, own_frame, right_fits}
use Rattle.sl_engine.proofs.compare.signs.Signs.take_own.Goals as goal

pub overflow_add-self : goal.overflow_add-self
overflow_add-self g c = omega (arith, few_byte c.is_right.result, c.from.ensures, right_fits c.requires.signs.1 c.requires.signs.2)

pub overflow_add-self-2 : goal.overflow_add-self-2
overflow_add-self-2 g c = omega (arith, few_byte c.is_long_frame.result, c.from-2.ensures, long_fits c.requires.signs.1 c.requires.signs.2)

pub overflow_add-self-3 : goal.overflow_add-self-3
overflow_add-self-3 g c = omega (arith, own_fits c.requires.signs.1 c.requires.signs.2)

pub returns-clause-own : goal.returns-clause-own
returns-clause-own g c = λ before a.
    own_frame a c.args.frame.now _ (sym c.is_own_frame.ensures ∙ c.if-not-is_own_frame.false) refl
    (ap (λ n. c.args.self.now.right + n) (c.from.ensures ∙ byte_is c.is_right.ensures)) (ap (λ n. c.args.self.now.long + n) (c.from-2.ensures ∙ byte_is c.is_long_frame.ensures))
