use Rattle.std.proofs.Common.{sym, ◌∙◌}
use Rattle.sl_sync.proofs.WindowLemmas.{cutting-unit, cutting-stray}
use Rattle.sl_sync.proofs.window.push_frames.Goals as goal

pub parts-preserved-then-begins : goal.parts-preserved-then-begins
parts-preserved-then-begins g c =
    let seen = c.is_seen.ensures.seen c.parts-test.true in
    cutting-unit c.parts.invariant _ _ c.requires (rw c.ahead-ahead.ensures at seen.1) (sym c.begins.ensures ∙ c.if-begins.true)
    c.in_ok-held.ensures.added c.in_ok-held.ensures.held c.behind-rest.ensures c.with_unit-totals.ensures

pub parts-preserved : goal.parts-preserved
parts-preserved g c =
    let seen = c.is_seen.ensures.seen c.parts-test.true in
    cutting-stray c.parts.invariant _ _ _ _ c.requires (rw c.ahead-ahead.ensures at c.seen.ensures.each) c.seen.ensures.inside.1
    (sym c.begins.ensures ∙ c.if-begins.false) c.stray-next.ensures c.behind-rest-else-begins.ensures c.with_stray-totals.ensures
