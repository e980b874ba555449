use Rattle.std.proofs.Common.{[], refl, subst}
use Rattle.sl_tcflow.specs.Farms.{HaveStepped}
use Rattle.sl_engine.specs.Link.Managed.{Parameters, reception_of}
use Rattle.sl_engine.specs.Link.ManagedModel.{parameters_of}
use Rattle.sl_engine.proofs.verbs.show.shown.FarmsShown.begin.Goals as goal

pub returns : goal.returns
returns c =
    subst (λ (p : Parameters). HaveStepped (reception_of p) c.new.result []) c.managed.view_is (c.new.ensures (reception_of (parameters_of c.managed.inside)) refl refl)
