use Rattle.sl_tcframe.proofs.ReadLemmas.{is_read, is_read_once}
use Rattle.sl_tcframe.proofs.laws.tc_frames_are_read.Goals as goal

pub returns-clause-each : goal.returns-clause-each
returns-clause-each c = is_read

pub returns-clause-once : goal.returns-clause-once
returns-clause-once c = is_read_once
