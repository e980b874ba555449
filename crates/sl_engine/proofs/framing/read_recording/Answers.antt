use Rattle.std.proofs.Common.{[], arith, refl, ◌++◌, ◌+◌, ◌≡◌}
use Rattle.sl_engine.proofs.lemmas.Link.Answers.{passed_up}
use Rattle.sl_engine.proofs.lemmas.Framing.Reading.{passes_over, passing_none}
use Rattle.sl_engine.proofs.framing.read_recording.Goals as goal

pub loop-framer-init : goal.loop-framer-init
loop-framer-init g c =
    let none = g.met.S.Framer.Framer.empty c.args.managed.now in
    ([], passing_none (record { cut = record { frames = []; rest = []; waiting = c.begin-framer.ensures; parts = refl; whole = tt; done = c.requires.begun }; all = none }))

pub read_chunk-requires-clause-ready : goal.read_chunk-requires-clause-ready
read_chunk-requires-clause-ready g c = (c.args.reader.now, c.args.sink.now, c.loop-framer.invariant.0, c.loop-framer.invariant.1)

pub returns-in_err-taken-clause-fault : goal.returns-in_err-taken-clause-fault
returns-in_err-taken-clause-fault g c =
    passed_up _ _ c.from_residual.ensures.1 (rw c.loop-framer.auto.buffer at (c.in_err-taken.ensures.fault c.args.reader.now c.args.sink.now c.loop-framer.invariant.0 c.loop-framer.invariant.1))

pub returns-then-taken-eq0-clause-all : goal.returns-then-taken-eq0-clause-all
returns-then-taken-eq0-clause-all g c =
    let next = c.in_ok-taken.ensures.passed c.args.reader.now c.args.sink.now c.loop-framer.invariant.0 c.loop-framer.invariant.1 in
    let none : c.in_ok-taken.taken ≡ 0 = omega (arith, c.if-taken-eq0) in
    let same : c.loop-framer.octets + c.in_ok-taken.taken ≡ c.loop-framer.octets = omega (arith, none) in
    passes_over (rw same at next.1) (c.in_ok-taken.ensures.end none)

pub loop-framer-preserved : goal.loop-framer-preserved
loop-framer-preserved g c =
    let next = c.in_ok-taken.ensures.passed c.args.reader.now c.args.sink.now c.loop-framer.invariant.0 c.loop-framer.invariant.1 in
    (c.loop-framer.invariant.0 ++ next.0, next.1)
