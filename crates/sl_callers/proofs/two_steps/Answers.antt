use Rattle.std.proofs.Common.{◌≡◌, ◌∷◌, [], ◌∙◌, ap, ap₂, arith}
use Rattle.sl_cop.specs.Farm.{FarmView, farm_start, farm_step}
use Rattle.sl_callers.proofs.two_steps.Goals as goal

pub returns : goal.returns
returns c verdicts t run =
    let w = c.args.window.now in
    let s = farm_start c.args.vr in
    let made = c.new-farm.ensures in
    let window : c.step-verdict.new.self.window ≡ w = c.step-verdict.ensures.window ∙ ap (λ (f : FarmView). f.window) made in
    let state : c.step-verdict.new.self.state ≡ (farm_step w s c.args.first).1 =
    c.step-verdict.ensures.state ∙ ap (λ (f : FarmView). (farm_step f.window f.state c.args.first).1) made in
    let first : c.step-verdict.result ≡ (farm_step w s c.args.first).0 =
    c.step-verdict.ensures.verdict ∙ ap (λ (f : FarmView). (farm_step f.window f.state c.args.first).0) made in
    let second : c.step.result ≡ (farm_step w (farm_step w s c.args.first).1 c.args.second).0 =
    c.step.ensures.verdict ∙ ap₂ (λ x y. (farm_step x y c.args.second).0) window state in
    ap₂ (λ a b. a ∷ b ∷ []) first second
    ∙ (c.events_have_one_run.ensures.once w s (c.args.first ∷ c.args.second ∷ []) verdicts t (omega (arith, c.width.ensures.most)) run).0
