use Rattle.sl_tcframe.proofs.DelimitedLemmas.{each_is_delimited, delimited_once}
use Rattle.sl_tcframe.proofs.laws.tc_recordings_are_delimited.Goals as goal

pub returns-clause-each : goal.returns-clause-each
returns-clause-each c = each_is_delimited

pub returns-clause-once : goal.returns-clause-once
returns-clause-once c = delimited_once
