use Rattle.std.proofs.Common.{◌/◌, ◌%◌, codes, Some, refl, length}
use Rattle.std.specs.Prelude.{option_map, unwrap_or}
use Rattle.std.proofs.Common.{subst}
use Rattle.sl_tcflow.specs.AcceptedUnit.{views_of}
use Rattle.sl_tcflow.specs.Incomplete.{incomplete_of}
use Rattle.sl_tcflow.specs.Reception.{segments_of}
use Rattle.sl_engine.specs.Compare.Words.{IsOneLine}
use Rattle.sl_engine.specs.Link.Managed.{reception_of, tc_format}
use Rattle.sl_engine.proofs.lemmas.Compare.Words.{open_one}
use Rattle.sl_engine.proofs.lemmas.Verbs.Check.FewTc.{open_is}
use Rattle.sl_engine.proofs.compare.summary.ReceiverSummarised.is_incomplete.Goals as goal

pub returns : goal.returns
returns c = λ p offset frames small h.
    let vc = c.args.channel / 64 in
    let map_id = c.args.channel % 64 in
    let r = reception_of p in
    let views = views_of (tc_format p) p.spacecraft frames in
    let held = incomplete_of (segments_of r vc map_id views) in
    subst (λ lines. IsOneLine (codes "open") lines c.is_open.result) (open_is offset vc map_id held (c.is_open.ensures.value r views h.processed) refl)
    (open_one offset small vc (Some map_id) (Some (unwrap_or (option_map length held) 0)) c.is_open.result)
