use Rattle.std.proofs.Common.{[], ap, append-nil, arith, refl, take, ◌++◌}
use Rattle.std.proofs.lemmas.Result.{IfOk-from_err}
use Rattle.sl_engine.proofs.lemmas.Link.Answers.{passed_up}
use Rattle.sl_engine.specs.Link.Managed.{Parameters}
use Rattle.sl_engine.proofs.lemmas.Framing.Reading.{more_came, size_next, passing_next, stops_reading, stops_in_chunk}
use Rattle.sl_engine.proofs.framing.read_chunk.Goals as goal

pub returns-in_err-taken-clause-passed : goal.returns-in_err-taken-clause-passed
returns-in_err-taken-clause-passed g c = IfOk-from_err c.from_residual.result _ c.from_residual.ensures.0

pub returns-in_err-taken-clause-end : goal.returns-in_err-taken-clause-end
returns-in_err-taken-clause-end g c = IfOk-from_err c.from_residual.result _ c.from_residual.ensures.0

pub returns-in_err-taken-clause-fits : goal.returns-in_err-taken-clause-fits
returns-in_err-taken-clause-fits g c = IfOk-from_err c.from_residual.result _ c.from_residual.ensures.0

pub returns-in_err-taken-clause-fault : goal.returns-in_err-taken-clause-fault
returns-in_err-taken-clause-fault g c =
    let limit = ap (λ (p : Parameters). p.max_octets) c.managed.view_is in
    passed_up _ _ c.from_residual.ensures.1 (λ begun start so_far s.
    stops_reading s g.met.S.Framer.Framer.front refl (omega (arith, c.read_some.auto.buffer)) (rw limit at c.in_err-taken.ensures.fault) c.in_err-taken.ensures.not_memory)

pub returns-then-taken-eq0-clause-passed : goal.returns-then-taken-eq0-clause-passed
returns-then-taken-eq0-clause-passed g c = λ begun start so_far s.
    let limit = ap (λ (p : Parameters). p.max_octets) c.managed.view_is in
    ([], passing_next s (rw (limit, c.if-taken-eq0.true) at c.in_ok-taken.ensures.came) (rw append-nil s.all))

pub returns-then-taken-eq0-clause-end : goal.returns-then-taken-eq0-clause-end
returns-then-taken-eq0-clause-end g c = λ _.
    c.in_ok-taken.ensures.came.to_end c.if-taken-eq0.true (omega (arith, c.read_some.auto.buffer, c.requires.room))

pub cut_chunk-requires : goal.cut_chunk-requires
cut_chunk-requires g c =
    let r = c.requires.ready in
    let came = rw (ap (λ (p : Parameters). p.max_octets) c.managed.view_is) at c.in_ok-taken.ensures.came in
    let chunk = take c.in_ok-taken.taken c.read_some.new.buffer in
    record { ready = (r.1, r.2 ++ chunk, more_came r.3 chunk, omega (arith, ap (λ (p : Parameters). p.max_octets) c.managed.view_is, size_next r.3 came, c.in_ok-taken.ensures.came.allowed, r.3.allowed)) }

pub returns-in_err-cut_chunk-clause-passed : goal.returns-in_err-cut_chunk-clause-passed
returns-in_err-cut_chunk-clause-passed g c = IfOk-from_err c.from_residual-in_err-cut_chunk.result _ c.from_residual-in_err-cut_chunk.ensures.0

pub returns-in_err-cut_chunk-clause-end : goal.returns-in_err-cut_chunk-clause-end
returns-in_err-cut_chunk-clause-end g c = IfOk-from_err c.from_residual-in_err-cut_chunk.result _ c.from_residual-in_err-cut_chunk.ensures.0

pub returns-in_err-cut_chunk-clause-fits : goal.returns-in_err-cut_chunk-clause-fits
returns-in_err-cut_chunk-clause-fits g c = IfOk-from_err c.from_residual-in_err-cut_chunk.result _ c.from_residual-in_err-cut_chunk.ensures.0

pub returns-in_err-cut_chunk-clause-fault : goal.returns-in_err-cut_chunk-clause-fault
returns-in_err-cut_chunk-clause-fault g c =
    let chunk = take c.in_ok-taken.taken c.read_some.new.buffer in
    let limit = ap (λ (p : Parameters). p.max_octets) c.managed.view_is in
    passed_up _ _ c.from_residual-in_err-cut_chunk.ensures.1 (λ begun start so_far s.
    stops_in_chunk s g.met.S.Framer.Framer.front refl (rw limit at c.in_ok-taken.ensures.came) (c.in_err-cut_chunk.ensures.fault start (so_far ++ chunk) (more_came s chunk)).1)

pub returns-clause-passed : goal.returns-clause-passed
returns-clause-passed g c = λ begun start so_far s.
    let chunk = take c.in_ok-taken.taken c.read_some.new.buffer in
    (chunk, passing_next s (rw (ap (λ (p : Parameters). p.max_octets) c.managed.view_is) at c.in_ok-taken.ensures.came) (c.in_ok-cut_chunk.ensures.taken start (so_far ++ chunk) (more_came s chunk)))

pub returns-clause-end : goal.returns-clause-end
returns-clause-end g c = λ none. absurd (c.if-taken-eq0.false none)

pub returns-clause-fits : goal.returns-clause-fits
returns-clause-fits g c = omega (arith, c.in_ok-taken.ensures.came.allowed, c.requires.ready.3.allowed)
