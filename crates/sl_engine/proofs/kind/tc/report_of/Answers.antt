use Rattle.std.proofs.Common.{refl}
use Rattle.sl_engine.proofs.kind.tc.report_of.Goals as goal

pub returns-clause-found : goal.returns-clause-found
returns-clause-found c =
    rw (c.vc.ensures.value, c.map.ensures.value, c.content_ns.ensures, c.content.ensures.value, c.verdict.ensures, c.stray.ensures, c.dropped.ensures.value, c.long.ensures, c.tail.ensures) refl
