use Rattle.std.proofs.Common.{◌∙◌, ◌+◌, ◌<◌, arith, drop, length, sym}
use Rattle.sl_merge.proofs.TakenLemmas.{next_here}
use Rattle.sl_merge.proofs.TwiceLemmas.{excused_more, excused_not}
use Rattle.sl_merge.proofs.twice.are_excused.Goals as goal

pub loop-item-preserved : goal.loop-item-preserved
loop-item-preserved g c =
    let items = c.args.items.now in
    let i = c.loop-item.item-index in
    let below : i < length items = omega arith in
    excused_more c.args.shape.now items (drop i items) (drop (i + 1) items) c.item-item.result (next_here items i c.item-item.result below c.item-item.is)
    (sym (c.if-not-is_excused.ensures items c.requires.seconds c.requires.times))
    ∙ c.loop-item.invariant

pub returns-then-not-is_excused : goal.returns-then-not-is_excused
returns-then-not-is_excused g c =
    let items = c.args.items.now in
    let i = c.loop-item.item-index in
    let below : i < length items = omega arith in
    sym (excused_not c.args.shape.now items (drop i items) (drop (i + 1) items) c.item-item.result (next_here items i c.item-item.result below c.item-item.is)
    (sym (c.if-not-is_excused.ensures items c.requires.seconds c.requires.times)))
    ∙ c.loop-item.invariant
