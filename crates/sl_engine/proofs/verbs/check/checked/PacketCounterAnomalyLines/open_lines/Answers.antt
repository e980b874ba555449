use Rattle.std.proofs.Common.{subst}
use Rattle.sl_tmflow.specs.VirtualChannel.{views_of}
use Rattle.sl_engine.specs.Link.Managed.{tm_format}
use Rattle.sl_engine.specs.Verbs.Check.Checking.{AddsAnomalies}
use Rattle.sl_engine.proofs.lemmas.Verbs.Check.FewTm.{open_is}
use Rattle.sl_engine.proofs.verbs.check.checked.PacketCounterAnomalyLines.open_lines.Goals as goal

pub returns-clause-added : goal.returns-clause-added
returns-clause-added c = λ p frames h.
    let held = c.held-octets.ensures.value (views_of (tm_format p) p.spacecraft frames) h.processed in
    subst (λ added. AddsAnomalies c.args.lines.now added c.event_lines.new.lines c.event_lines.result) (open_is p c.args.offset c.args.channel frames held) (rw c.from.ensures at c.event_lines.ensures)
