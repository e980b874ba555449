use Rattle.sl_tcframe.proofs.PartLemmas.{has_parts, parts_once, parts_cut}
use Rattle.sl_tcframe.proofs.laws.tc_frames_have_parts.Goals as goal

pub returns-clause-each : goal.returns-clause-each
returns-clause-each c = has_parts

pub returns-clause-once : goal.returns-clause-once
returns-clause-once c = parts_once

pub returns-clause-only : goal.returns-clause-only
returns-clause-only c = parts_cut
