use Rattle.std.proofs.Common.{◌∙◌, ap, arith, slice_index_or, subst, sym}
use Rattle.sl_cop.specs.Farm.{farm_step}
use Rattle.sl_tcflow.specs.AcceptedUnit.{event_of}
use Rattle.sl_tcflow.specs.Farms.{HaveStepped}
use Rattle.sl_tcflow.proofs.lemmas.Reception.Farm.{stepped_more}
use Rattle.sl_tcflow.proofs.farms.Farms.step.Goals as goal

pub returns-clause-farms : goal.returns-clause-farms
returns-clause-farms c r views s =
    let farms = c.self.inside.farms in
    let had = subst (λ l. HaveStepped r l views) (sym c.self.view_is) s in
    let before = slice_index_or farms c.from.result c.index-self-from.result in
    stepped_more r farms views c.args.frame.now c.from.result c.index-self-from.result c.step.new.self had
    (omega (arith, c.vc.ensures.value, c.vc.ensures.fits)) (c.from.ensures ∙ c.vc.ensures.value) c.step.ensures.window
    (c.step.ensures.state ∙ ap (λ event. (farm_step before.window before.state event).1) (c.event_in.ensures ∙ ap event_of c.content.ensures.value))
