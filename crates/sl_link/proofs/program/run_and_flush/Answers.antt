use Rattle.sl_engine.proofs.lemmas.Link.Answers.{passed_up}
use Rattle.sl_io.proofs.StreamLemmas.{written_flushed}
use Rattle.sl_link.proofs.lemmas.Program.Run.{stopped_flushing}
use Rattle.sl_link.proofs.program.run_and_flush.Goals as goal

pub returns-in_err-flush-clause-stopped : goal.returns-in_err-flush-clause-stopped
returns-in_err-flush-clause-stopped g c =
    passed_up _ _ c.from_residual-in_err-flush.ensures.1 (stopped_flushing c.in_ok-totals.ensures.written c.flush.ensures.kept c.in_err-flush.ensures.fault.0 c.in_err-flush.ensures.fault.1)

pub returns-clause-written : goal.returns-clause-written
returns-clause-written g c = written_flushed c.in_ok-totals.ensures.written c.flush.ensures.kept c.in_ok-flush.ensures.ok
