use Rattle.std.proofs.Common.{arith, sym, ◌∙◌, eq-eqb}
use Rattle.std.proofs.lemmas.Bool.{ne_eqb}
use Rattle.sl_sync.proofs.ReadingLemmas.{reading-start, stops-reading, stops-memory, stops-writing, reading-more, reading-ended, not_err, passed_up}
use Rattle.sl_sync.proofs.read.copy_frames.Goals as goal

pub chunks-init : goal.chunks-init
chunks-init g c = reading-start _ _ _ _ _ _ c.requires.start

pub returns-in_err-taken-clause-stopped : goal.returns-in_err-taken-clause-stopped
returns-in_err-taken-clause-stopped g c =
    passed_up _ _ c.from_residual.ensures.1
    (stops-reading c.chunks.invariant _ _ (omega (arith, c.read_some.auto.buffer, c.chunks.auto.buffer)) c.in_err-taken.ensures.fault)

pub returns-then-is_err-clause-stopped : goal.returns-then-is_err-clause-stopped
returns-then-is_err-clause-stopped g c = stops-memory c.chunks.invariant c.in_ok-taken.ensures.came _

pub returns-in_err-write_text-clause-stopped : goal.returns-in_err-write_text-clause-stopped
returns-in_err-write_text-clause-stopped g c =
    let cut = not_err _ (sym c.is_err.ensures.value ∙ c.if-is_err.false) c.cut.ensures in
    passed_up _ _ c.from_residual-in_err-write_text.ensures.1
    (stops-writing c.chunks.invariant c.in_ok-taken.ensures.came cut _ (rw c.as_slice.ensures.value at c.in_err-write_text.ensures.fault))

pub returns-then-ended-clause-written : goal.returns-then-ended-clause-written
returns-then-ended-clause-written g c =
    let cut = not_err _ (sym c.is_err.ensures.value ∙ c.if-is_err.false) c.cut.ensures in
    reading-ended c.chunks.invariant c.in_ok-taken.ensures.came cut (eq-eqb c.in_ok-taken.taken 0 c.if-ended.true) c.if-ended.true
    (omega (arith, c.requires.room, c.read_some.auto.buffer, c.chunks.auto.buffer)) (rw c.as_slice.ensures.value at c.in_ok-write_text.ensures.written)

pub chunks-preserved : goal.chunks-preserved
chunks-preserved g c =
    let cut = not_err _ (sym c.is_err.ensures.value ∙ c.if-is_err.false) c.cut.ensures in
    reading-more c.chunks.invariant c.in_ok-taken.ensures.came cut (ne_eqb c.in_ok-taken.taken 0 c.if-ended.false)
    (rw c.as_slice.ensures.value at c.in_ok-write_text.ensures.written)
