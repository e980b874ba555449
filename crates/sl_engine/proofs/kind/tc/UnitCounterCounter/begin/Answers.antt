use Rattle.std.proofs.Common.{[], subst}
use Rattle.sl_tcflow.specs.UnitCounter.{HasCounted}
use Rattle.sl_engine.specs.Link.Managed.{Parameters, reception_of}
use Rattle.sl_engine.proofs.lemmas.Kind.Tc.{none_processed}
use Rattle.sl_engine.proofs.kind.tc.UnitCounterCounter.begin.Goals as goal

pub returns : goal.returns
returns c = none_processed c.args.managed.now (subst (λ (p : Parameters). HasCounted (reception_of p) c.new.result []) c.managed.view_is c.new.ensures)
