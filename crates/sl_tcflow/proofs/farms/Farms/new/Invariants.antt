use Rattle.sl_tcflow.proofs.lemmas.Reception.Farm.{AreSet}
use Rattle.sl_tcflow.proofs.farms.Farms.new.Given as goal

abbrev pub invariant-loop-vc : goal.invariant-loop-vc
invariant-loop-vc l = AreSet l.window l.starts l.vc l.farms
