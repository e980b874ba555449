use Rattle.std.proofs.Common.{◌/◌, ◌%◌, subst}
use Rattle.sl_tcflow.specs.AcceptedUnit.{views_of}
use Rattle.sl_tcflow.specs.Incomplete.{incomplete_of}
use Rattle.sl_tcflow.specs.Reception.{segments_of}
use Rattle.sl_engine.specs.Link.Managed.{reception_of, tc_format}
use Rattle.sl_engine.specs.Verbs.Check.Checking.{AddsAnomalies}
use Rattle.sl_engine.proofs.lemmas.Verbs.Check.FewTc.{open_is}
use Rattle.sl_engine.proofs.verbs.check.checked.UnitCounterAnomalyLines.open_lines.Goals as goal

pub returns-clause-added : goal.returns-clause-added
returns-clause-added c = λ p frames h.
    let vc = c.args.channel / 64 in
    let map_id = c.args.channel % 64 in
    let r = reception_of p in
    let views = views_of (tc_format p) p.spacecraft frames in
    subst (λ added. AddsAnomalies c.args.lines.now added c.event_lines.new.lines c.event_lines.result)
    (open_is c.args.offset vc map_id (incomplete_of (segments_of r vc map_id views)) (c.is_open.ensures.value r views h.processed) (c.held-octets.ensures.value r views h.processed))
    (rw (c.from.ensures, c.from-2.ensures) at c.event_lines.ensures)
