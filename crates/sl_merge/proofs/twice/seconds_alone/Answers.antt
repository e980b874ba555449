use Rattle.std.proofs.Common.{◌∙◌, ◌+◌, ◌<◌, ◌≡◌, true, cond, ap, arith, drop, length}
use Rattle.std.specs.Prelude.{bytes_eq}
use Rattle.std.specs.HashSet.{contains}
use Rattle.sl_merge.specs.Fates.{turned}
use Rattle.sl_merge.specs.Merge.{is_first_alone}
use Rattle.sl_merge.proofs.TakenLemmas.{next_here}
use Rattle.sl_merge.proofs.TwiceLemmas.{seconds_more}
use Rattle.sl_merge.proofs.twice.seconds_alone.Goals as goal

pub loop-item-preserved : goal.loop-item-preserved
loop-item-preserved g c = λ frame.
    let items = c.args.items.now in
    let i = c.loop-item.item-index in
    let item = c.item-item.result in
    let below : i < length items = omega arith in
    let alone : is_first_alone (turned item.fate) ≡ true = cc (c.if-not-is_first_alone.ensures, c.turned.ensures, c.fate.ensures) in
    seconds_more frame (drop i items) (drop (i + 1) items) item (next_here items i item below c.item-item.is) alone
    (contains bytes_eq c.loop-item.seconds frame) (contains bytes_eq c.insert.new.self frame)
    (c.in_ok-insert.ensures.updates.0 frame
    ∙ ap (λ k. cond (bytes_eq k frame) true (contains bytes_eq c.loop-item.seconds frame)) (c.new.ensures ∙ c.frame.ensures.octets))
    ∙ c.loop-item.invariant frame
