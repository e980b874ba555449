use Rattle.std.proofs.Common.{refl}
use Rattle.sl_engine.proofs.kind.tm.report_of.Goals as goal

pub returns-clause-found : goal.returns-clause-found
returns-clause-found c = rw (c.vc.ensures.value, c.vc_count.ensures, c.gap.ensures, c.dropped.ensures.value, c.is_opaque.ensures, c.field.ensures.value, c.foreign.ensures) refl
