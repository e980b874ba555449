use Rattle.sllink_compare.proofs.run.compare.Goals as goal

pub returns-in-Tm-clause-compared : goal.returns-in-Tm-clause-compared
returns-in-Tm-clause-compared g c = rw c.in-Tm.is c.compare_tm.ensures.compared

pub returns-in-Tc-clause-compared : goal.returns-in-Tc-clause-compared
returns-in-Tc-clause-compared g c = rw c.in-Tc.is c.compare_tc.ensures.compared

pub returns-in-Tm-clause-memory : goal.returns-in-Tm-clause-memory
returns-in-Tm-clause-memory g c = rw c.in-Tm.is c.compare_tm.ensures.memory

pub returns-in-Tc-clause-memory : goal.returns-in-Tc-clause-memory
returns-in-Tc-clause-memory g c = rw c.in-Tc.is c.compare_tc.ensures.memory
