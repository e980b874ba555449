use Rattle.sl_tmframe.proofs.PartLemmas.{has_parts, parts_once}
use Rattle.sl_tmframe.proofs.laws.tm_frames_have_parts.Goals as goal

pub returns-clause-each : goal.returns-clause-each
returns-clause-each c = has_parts

pub returns-clause-once : goal.returns-clause-once
returns-clause-once c = parts_once
