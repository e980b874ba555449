use Rattle.sl_tmframe.proofs.DelimitedLemmas.{is_delimited, only_frames, only_remainder}
use Rattle.sl_tmframe.proofs.laws.tm_recordings_are_delimited.Goals as goal

pub returns-clause-each : goal.returns-clause-each
returns-clause-each c = is_delimited

pub returns-clause-once : goal.returns-clause-once
returns-clause-once c len recording frames remainder positive d =
    (only_frames len recording frames remainder positive d, only_remainder len recording frames remainder positive d)
