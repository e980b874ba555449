use Rattle.sl_engine.proofs.engine.run_engine.Goals as goal

pub returns-in-Check-Tm-clause-written : goal.returns-in-Check-Tm-clause-written
returns-in-Check-Tm-clause-written g c = rw (c.in-Check-Tm.is-0, c.in-Check-Tm.is-1) c.check_tm.ensures.totals

pub returns-in-Check-Tc-clause-written : goal.returns-in-Check-Tc-clause-written
returns-in-Check-Tc-clause-written g c = rw (c.in-Check-Tc.is-0, c.in-Check-Tc.is-1) c.check_tc.ensures.totals

pub returns-in-Packets-Tm-clause-written : goal.returns-in-Packets-Tm-clause-written
returns-in-Packets-Tm-clause-written g c = rw (c.in-Packets-Tm.is-0, c.in-Packets-Tm.is-1) c.packets_tm.ensures.totals

pub returns-in-Packets-Tc-clause-written : goal.returns-in-Packets-Tc-clause-written
returns-in-Packets-Tc-clause-written g c = rw (c.in-Packets-Tc.is-0, c.in-Packets-Tc.is-1) c.packets_tc.ensures.totals

pub returns-in-Show-Tm-clause-written : goal.returns-in-Show-Tm-clause-written
returns-in-Show-Tm-clause-written g c = rw (c.in-Show-Tm.is-0, c.in-Show-Tm.is-1) c.show_tm.ensures.totals

pub returns-in-Show-Tc-clause-written : goal.returns-in-Show-Tc-clause-written
returns-in-Show-Tc-clause-written g c = rw (c.in-Show-Tc.is-0, c.in-Show-Tc.is-1) c.show_tc.ensures.totals

pub returns-in-Packets-Tm-clause-memory : goal.returns-in-Packets-Tm-clause-memory
returns-in-Packets-Tm-clause-memory g c = rw (c.in-Packets-Tm.is-0, c.in-Packets-Tm.is-1) c.packets_tm.ensures.memory

pub returns-in-Packets-Tc-clause-memory : goal.returns-in-Packets-Tc-clause-memory
returns-in-Packets-Tc-clause-memory g c = rw (c.in-Packets-Tc.is-0, c.in-Packets-Tc.is-1) c.packets_tc.ensures.memory

pub returns-in-Normalise-Tm-clause-memory : goal.returns-in-Normalise-Tm-clause-memory
returns-in-Normalise-Tm-clause-memory g c = rw (c.in-Normalise-Tm.is-0, c.in-Normalise-Tm.is-1) c.normalise_tm.ensures.memory

pub returns-in-Normalise-Tc-clause-memory : goal.returns-in-Normalise-Tc-clause-memory
returns-in-Normalise-Tc-clause-memory g c = rw (c.in-Normalise-Tc.is-0, c.in-Normalise-Tc.is-1) c.normalise_tc.ensures.memory

pub returns-in-Check-Tc-clause-memory : goal.returns-in-Check-Tc-clause-memory
returns-in-Check-Tc-clause-memory g c = rw (c.in-Check-Tc.is-0, c.in-Check-Tc.is-1) c.check_tc.ensures.memory
