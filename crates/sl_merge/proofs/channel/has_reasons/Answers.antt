use Rattle.std.proofs.Common.{◌≡◌, ◌∙◌, ◌+◌, ◌<◌, false, true, length, drop, arith, sym}
use Rattle.sl_merge.specs.Merge.{before_after, count_of, is_repeat}
use Rattle.sl_merge.specs.Tally.{admits, tally_after}
use Rattle.sl_merge.specs.Told.{turn_if}
use Rattle.sl_merge.proofs.ReasonLemmas.{fewer, judged_more, smaller}
use Rattle.sl_merge.proofs.TakenLemmas.{next_here}
use Rattle.sl_merge.proofs.channel.has_reasons.Goals as goal

pub loop-item-preserved : goal.loop-item-preserved
loop-item-preserved c =
    let items = c.args.items.now in
    let i = c.loop-item.item-index in
    let item = c.item-item.result in
    let below : i < length items = omega arith in
    let side : c.from_side-side.result ≡ turn_if c.args.is_turned item = c.from_side-side.ensures in
    let before : c.before_after-before.result.now ≡ before_after c.loop-item.before.now (turn_if c.args.is_turned item) =
    rw side at c.before_after-before.ensures in
    let fails : is_repeat c.loop-item.before.now (turn_if c.args.is_turned item) ≡ false = sym (rw side at c.if-is_repeat.ensures) in
    let holds : admits c.args.most c.loop-item.tally (turn_if c.args.is_turned item).fate (count_of (turn_if c.args.is_turned item).frame) ≡ true = sym (rw side at c.if-not-admits.ensures) in
    let after : c.after-tally.result ≡ tally_after (turn_if c.args.is_turned item).fate (count_of (turn_if c.args.is_turned item).frame) c.loop-item.tally =
    rw side at c.after-tally.ensures in
    record {
      left_out = smaller (turn_if c.args.is_turned item).fate (count_of (turn_if c.args.is_turned item).frame) c.loop-item.tally c.after-tally.result i after c.loop-item.invariant.left_out;
      others = fewer (turn_if c.args.is_turned item).fate (count_of (turn_if c.args.is_turned item).frame) c.loop-item.tally c.after-tally.result i after c.loop-item.invariant.others;
      judged =
          judged_more c.args.most c.args.is_turned (drop i items) (drop (i + 1) items) item (next_here items i item below c.item-item.is)
          c.loop-item.before.now c.loop-item.tally c.before_after-before.result.now c.after-tally.result before fails holds after
          ∙ c.loop-item.invariant.judged;
    }
