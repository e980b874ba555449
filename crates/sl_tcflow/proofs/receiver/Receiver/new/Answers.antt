use Rattle.std.proofs.Common.{refl}
use Rattle.sl_tcflow.specs.ReceptionParameters.{ReceptionParameters}
use Rattle.sl_tcflow.proofs.lemmas.Reception.Farm.{processed_none}
use Rattle.sl_tcflow.proofs.receiver.Receiver.new.Goals as goal

pub returns-clause-processed : goal.returns-clause-processed
returns-clause-processed c =
    let r : ReceptionParameters = record { window = c.args.window; starts = c.args.starts.now; plain = c.args.plain } in
    processed_none r _ c.new-2.result (c.new.ensures r refl refl) c.new-2.ensures.none
