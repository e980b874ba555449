use Rattle.std.proofs.Common.{◌∙◌, ap, sym}
use Rattle.sl_engine.proofs.lemmas.Compare.Signs.{all_signs, signs_own}
use Rattle.sl_engine.specs.declared.compare.signs.Signs.{Signs}
use Rattle.sl_engine.specs.Compare.Signs.{with_channel}
use Rattle.sl_engine.proofs.compare.signs.Signs.take.Goals as goal

pub take_own-requires-clause-signs : goal.take_own-requires-clause-signs
take_own-requires-clause-signs g c =
    let p = c.args.managed.now in
    (c.requires.0, signs_own (g.D.Summarised.is_own p) (g.D.Summarised.is_long p) (g.D.Summarised.begun p) _ _ c.requires.1, c.requires.4)

pub returns : goal.returns
returns g c = λ before is found.
    let p = c.args.managed.now in
    let own = g.D.Summarised.is_own p in
    let long = g.D.Summarised.is_long p in
    let begun = g.D.Summarised.begun p in
    let after = c.take_own.ensures.own before (signs_own own long begun before c.args.self.now is) in
    c.begin.ensures ∙ all_signs own long begun _ _ (record { own = after.own; right = after.right; long = after.long })
    (ap (λ b. with_channel b c.channel_read.result) (c.take_own.ensures.begun ∙ ap (λ (s : Signs). s.begun) is) ∙ sym (c.channel_read.ensures p before c.args.frame.now found))
