use Rattle.std.proofs.Common.{refl}
use Rattle.sl_tcflow.specs.ReceptionParameters.{ReceptionParameters}
use Rattle.sl_tcflow.proofs.lemmas.Counter.{counted_new}
use Rattle.sl_tcflow.proofs.unit_counter.UnitCounter.new.Goals as goal

pub returns : goal.returns
returns c =
    let r : ReceptionParameters = record { window = c.args.window; starts = c.args.starts.now; plain = c.args.plain } in
    record { plain = refl; farms = c.new.ensures r refl refl; counts = counted_new r c.new-2.result c.new-2.ensures }
