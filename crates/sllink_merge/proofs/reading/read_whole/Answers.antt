use Rattle.std.proofs.Common.{◌≡◌, arith, length}
use Rattle.sllink_merge.specs.Reading.{chunk_size}
use Rattle.sllink_merge.proofs.ReadingLemmas.{none_came, passed_up, reading_more, reading_none, stops_at_once, stops_memory, stops_reading}
use Rattle.sllink_merge.proofs.reading.read_whole.Goals as goal

pub loop-octets-init : goal.loop-octets-init
loop-octets-init g c = record { room = omega arith; reading = rw c.in_ok-octets.ensures.empty reading_none }

pub returns-in_err-octets-clause-fault : goal.returns-in_err-octets-clause-fault
returns-in_err-octets-clause-fault g c =
    passed_up _ _ c.from_residual.ensures.1 (rw c.in_err-octets.ensures.memory stops_at_once)

pub returns-in_err-taken-clause-fault : goal.returns-in_err-taken-clause-fault
returns-in_err-taken-clause-fault g c =
    let size : c.len.result ≡ length c.loop-octets.octets.items = omega arith in
    passed_up _ _ c.from_residual-in_err-taken.ensures.1
    (stops_reading c.loop-octets.invariant.reading size chunk_size _ (omega (arith, c.loop-octets.invariant.room)) c.in_err-taken.ensures.fault)

pub returns-then-taken-eq0-clause-read : goal.returns-then-taken-eq0-clause-read
returns-then-taken-eq0-clause-read g c =
    let size : c.len.result ≡ length c.loop-octets.octets.items = omega arith in
    let none : c.in_ok-taken.taken ≡ 0 = omega (arith, c.if-taken-eq0) in
    none_came c.loop-octets.invariant.reading size c.in_ok-taken.ensures.came none
    (c.in_ok-taken.ensures.came.to_end none (omega arith))

pub returns-in_err-keep-clause-fault : goal.returns-in_err-keep-clause-fault
returns-in_err-keep-clause-fault g c =
    let size : c.len.result ≡ length c.loop-octets.octets.items = omega arith in
    passed_up _ _ c.from_residual-in_err-keep.ensures.1
    (rw c.in_err-keep.ensures.memory (stops_memory c.loop-octets.invariant.reading size c.in_ok-taken.ensures.came chunk_size))

pub loop-octets-preserved : goal.loop-octets-preserved
loop-octets-preserved g c =
    let size : c.len.result ≡ length c.loop-octets.octets.items = omega arith in
    record {
      room = omega arith;
      reading = rw c.in_ok-keep.ensures.kept (reading_more c.loop-octets.invariant.reading size c.in_ok-taken.ensures.came);
    }
