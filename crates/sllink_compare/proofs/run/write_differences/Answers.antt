use Rattle.sllink_compare.proofs.WritingLemmas.{both_written, err_then, first_stops, flush_stops, flushed, ok_then, passed_up, second_stops}
use Rattle.sllink_compare.proofs.run.write_differences.Goals as goal

pub returns-in_err-write_head-clause-stopped : goal.returns-in_err-write_head-clause-stopped
returns-in_err-write_head-clause-stopped g c =
    passed_up _ _ c.from_residual.ensures.1 (λ firsts seconds s. first_stops _ c.in_err-write_head.ensures.stopped)

pub returns-in_err-write_difference-clause-stopped : goal.returns-in_err-write_difference-clause-stopped
returns-in_err-write_difference-clause-stopped g c =
    passed_up _ _ c.from_residual-in_err-write_difference.ensures.1 (λ firsts seconds s.
    second_stops c.in_ok-write_head.ensures.written (c.in_err-write_difference.ensures.stopped firsts seconds s))

pub returns-clause-written : goal.returns-clause-written
returns-clause-written g c =
    ok_then c.flush.result c.flush.ensures.ok (λ same firsts seconds s.
    flushed (both_written c.in_ok-write_head.ensures.written (c.in_ok-write_difference.ensures.written firsts seconds s)) c.flush.ensures.kept same)

pub returns-clause-stopped : goal.returns-clause-stopped
returns-clause-stopped g c =
    err_then c.flush.result c.flush.ensures.fault (λ fault failed firsts seconds s.
    flush_stops (both_written c.in_ok-write_head.ensures.written (c.in_ok-write_difference.ensures.written firsts seconds s)) c.flush.ensures.kept failed)
