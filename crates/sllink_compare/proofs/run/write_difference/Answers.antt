use Rattle.sllink_compare.proofs.run.write_difference.Goals as goal

pub returns-in-Tm-clause-written : goal.returns-in-Tm-clause-written
returns-in-Tm-clause-written g c = rw c.in-Tm.is c.write_difference_tm.ensures.written

pub returns-in-Tm-clause-stopped : goal.returns-in-Tm-clause-stopped
returns-in-Tm-clause-stopped g c = rw c.in-Tm.is c.write_difference_tm.ensures.fault

pub returns-in-Tc-clause-written : goal.returns-in-Tc-clause-written
returns-in-Tc-clause-written g c = rw c.in-Tc.is c.write_difference_tc.ensures.written

pub returns-in-Tc-clause-stopped : goal.returns-in-Tc-clause-stopped
returns-in-Tc-clause-stopped g c = rw c.in-Tc.is c.write_difference_tc.ensures.fault
