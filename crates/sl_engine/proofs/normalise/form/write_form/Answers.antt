use Rattle.std.proofs.Common.{◌∙◌, append-nil, ap, arith, length, length-append, refl, rules}
use Rattle.std.proofs.lemmas.Result.{MatchResult-weaker, on_err_weaker, on_ok_weaker}
use Rattle.sl_engine.proofs.lemmas.Io.Streams.{all_written}
use Rattle.sl_engine.proofs.lemmas.Link.Answers.{passed_up}
use Rattle.sl_engine.proofs.lemmas.Normalise.Form.{chunk_written, form_begun, form_stopped, is_false, next_piece, piece_left, room_taken, some_left, some_waiting, stopped_first}
use Rattle.sl_engine.proofs.normalise.form.write_form.Goals as goal

pub loop-text-init : goal.loop-text-init
loop-text-init g c = record {
  written = form_begun c.new-text.ensures.items;
  ready = search rules;
  first = λ _. (refl, refl);
  few = omega (arith, ap length c.new-text.ensures.items);
}

-- memory is refused only where none was taken yet, and there nothing is written
pub returns-in_err-next-clause-fault : goal.returns-in_err-next-clause-fault
returns-in_err-next-clause-fault g c =
    let i = c.loop-text.invariant in
    let e = c.in_err-next.ensures in
    let (same, left) = i.first (is_false c.loop-text.is_ready (λ ready. absurd (omega (arith, e.full (i.ready ready).0, (i.ready ready).1, i.few)))) in
    passed_up _ _ c.from_residual.ensures.1 (stopped_first same left e.pieces e.fault)

pub returns-in_err-next-clause-some : goal.returns-in_err-next-clause-some
returns-in_err-next-clause-some g c = passed_up _ _ c.from_residual.ensures.1 (some_left c.loop-text.text.items c.loop-text.invariant.written c.in_err-next.ensures.pieces)

pub take_room-requires : goal.take_room-requires
take_room-requires g c = λ ready.
    let i = c.loop-text.invariant in
    (c.next.ensures.keeps (i.ready ready).0, omega (arith, c.next.ensures.capacity, (i.ready ready).1))

pub returns-in_err-take_room-clause-fault : goal.returns-in_err-take_room-clause-fault
returns-in_err-take_room-clause-fault g c =
    let (same, left) = c.loop-text.invariant.first c.in_err-take_room.ensures.first in
    passed_up _ _ c.from_residual-in_err-take_room.ensures.1 (stopped_first same left (piece_left (c.in_ok-next.ensures.piece c.if-branch.true)) c.in_err-take_room.ensures.fault)

pub returns-in_err-take_room-clause-some : goal.returns-in_err-take_room-clause-some
returns-in_err-take_room-clause-some g c =
    passed_up _ _ c.from_residual-in_err-take_room.ensures.1 (some_left c.loop-text.text.items c.loop-text.invariant.written (piece_left (c.in_ok-next.ensures.piece c.if-branch.true)))

pub returns-in_err-write_chunk-clause-fault : goal.returns-in_err-write_chunk-clause-fault
returns-in_err-write_chunk-clause-fault g c =
    let more = room_taken (next_piece c.loop-text.invariant.written (c.in_ok-next.ensures.piece c.if-branch.true)) c.in_ok-take_room.ensures.text c.in_ok-take_room.ensures.left in
    passed_up _ _ c.from_residual-in_err-write_chunk.ensures.1 (form_stopped _ more c.in_err-write_chunk.ensures.fault)

pub returns-in_err-write_chunk-clause-some : goal.returns-in_err-write_chunk-clause-some
returns-in_err-write_chunk-clause-some g c =
    passed_up _ _ c.from_residual-in_err-write_chunk.ensures.1 (some_left c.loop-text.text.items c.loop-text.invariant.written (piece_left (c.in_ok-next.ensures.piece c.if-branch.true)))

pub loop-text-smaller : goal.loop-text-smaller
loop-text-smaller g c =
    let p = c.in_ok-next.ensures.piece c.if-branch.true in
    let same = ap length c.in_ok-take_room.ensures.left in
    grind (arith, length-append)

pub loop-text-preserved : goal.loop-text-preserved
loop-text-preserved g c =
    let more = room_taken (next_piece c.loop-text.invariant.written (c.in_ok-next.ensures.piece c.if-branch.true)) c.in_ok-take_room.ensures.text c.in_ok-take_room.ensures.left in
    record {
      written = chunk_written _ more c.in_ok-write_chunk.ensures.kept;
      ready = λ _. (c.in_ok-take_room.ensures.ready, omega (arith, c.in_ok-write_chunk.ensures.capacity, c.in_ok-take_room.ensures.room));
      first = search rules;
      few = c.in_ok-write_chunk.ensures.few;
    }

-- no piece is left: all that isn't written yet waits
pub returns-clause-written : goal.returns-clause-written
returns-clause-written g c =
    let end = c.in_ok-next.ensures.end c.if-branch.false in
    let waits = rw (end.0, append-nil) at c.loop-text.invariant.written in
    on_ok_weaker c.write_text.result (λ done. all_written _ _ _ _ _ _ waits (rw (c.as_slice.ensures.value ∙ end.1) at done)) c.write_text.ensures.written

pub returns-clause-fault : goal.returns-clause-fault
returns-clause-fault g c =
    let same = c.as_slice.ensures.value ∙ (c.in_ok-next.ensures.end c.if-branch.false).1 in
    MatchResult-weaker c.write_text.result c.write_text.ensures.fault (λ _ u. u) (λ fault s. form_stopped _ c.loop-text.invariant.written (rw same at s))

pub returns-clause-some : goal.returns-clause-some
returns-clause-some g c =
    let end = c.in_ok-next.ensures.end c.if-branch.false in
    let waits = rw (end.0, append-nil) at c.loop-text.invariant.written in
    on_err_weaker c.write_text.result (λ some. some_waiting waits (λ none. some (c.as_slice.ensures.value ∙ end.1 ∙ none))) c.write_text.ensures.some
