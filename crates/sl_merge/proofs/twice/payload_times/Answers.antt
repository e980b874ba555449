use Rattle.std.proofs.Common.{◌∙◌, ◌+◌, ◌<◌, ◌≡◌, ℕ, List, Some, ap, arith, cond, drop, length}
use Rattle.std.specs.Prelude.{bytes_eq, unwrap_or}
use Rattle.std.specs.HashMap.{get_by}
use Rattle.sl_merge.specs.Merge.{payload}
use Rattle.sl_merge.specs.Twice.{no_times}
use Rattle.sl_merge.proofs.TakenLemmas.{next_here}
use Rattle.sl_merge.proofs.TwiceLemmas.{times_step}
use Rattle.sl_merge.proofs.twice.payload_times.Goals as goal

pub loop-item-preserved : goal.loop-item-preserved
loop-item-preserved g c = λ octets.
    let items = c.args.items.now in
    let i = c.loop-item.item-index in
    let item = c.item-item.result in
    let below : i < length items = omega arith in
    let old = λ (q : List ℕ). get_by (bytes_eq q) c.loop-item.times in
    let key : c.new-payload.result ≡ payload c.args.shape.now item.frame = c.new-payload.ensures ∙ c.payload.ensures in
    times_step c.args.shape.now octets (drop i items) (drop (i + 1) items) item (next_here items i item below c.item-item.is)
    old (get_by (bytes_eq octets) c.insert.new.self) c.unwrap_or-before.result c.after.result
    (c.in_ok-insert.ensures.updates.0 octets ∙ ap (λ k. cond (bytes_eq k octets) (Some c.after.result) (old octets)) key)
    (c.unwrap_or-before.ensures ∙ ap (λ o. unwrap_or o no_times) (c.copied.ensures ∙ c.get.ensures.value ∙ ap old key))
    c.after.ensures
    ∙ c.loop-item.invariant octets
