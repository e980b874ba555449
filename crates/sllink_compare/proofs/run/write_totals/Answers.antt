use Rattle.sllink_compare.proofs.WritingLemmas.{err_then, stops_at_memory, stops_weaker}
use Rattle.sllink_compare.proofs.run.write_totals.Goals as goal

pub returns-in-Ok-clause-written : goal.returns-in-Ok-clause-written
returns-in-Ok-clause-written g c = rw (c.as_str.ensures.value, c.in-Ok.ensures) at c.write_and_flush.ensures.written

pub returns-in-Ok-clause-stopped : goal.returns-in-Ok-clause-stopped
returns-in-Ok-clause-stopped g c =
    err_then c.write_and_flush.result (rw (c.as_str.ensures.value, c.in-Ok.ensures) at c.write_and_flush.ensures.stopped) (λ fault s. stops_weaker s)

pub returns-in-Err-clause-stopped : goal.returns-in-Err-clause-stopped
returns-in-Err-clause-stopped g c = stops_at_memory _ _
