use Rattle.sllink_compare.proofs.run.write_answer.Goals as goal

pub returns-in-Different-clause-written : goal.returns-in-Different-clause-written
returns-in-Different-clause-written g c = rw c.in-Different.is c.write_differences.ensures.written

pub returns-in-Different-clause-stopped : goal.returns-in-Different-clause-stopped
returns-in-Different-clause-stopped g c = rw c.in-Different.is c.write_differences.ensures.stopped
