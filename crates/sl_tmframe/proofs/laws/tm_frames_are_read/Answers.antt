use Rattle.sl_tmframe.proofs.ReadLemmas.{each_is_read, is_read_once}
use Rattle.sl_tmframe.proofs.laws.tm_frames_are_read.Goals as goal

pub returns-clause-each : goal.returns-clause-each
returns-clause-each c = each_is_read

pub returns-clause-once : goal.returns-clause-once
returns-clause-once c = is_read_once
