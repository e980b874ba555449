use Rattle.std.proofs.Common.{◌≡◌, None, Some, ap, ◌∙◌, arith}
use Rattle.std.proofs.lemmas.Option.{none-some, same_Some}
use Rattle.std.proofs.lemmas.Str.Pattern.{split_parts}
use Rattle.sl_cop.proofs.StartsTextLemmas.{has_colon, item_parts}
use Rattle.sl_cop.proofs.starts.read_item.Goals.{else-least-vc-via-then-least-vc+else-vc-le63, else-least-vc-via-else-least-vc}
use Rattle.sl_cop.proofs.starts.read_item.Goals as goal

pub returns-in_err-vc-clause-every : goal.returns-in_err-vc-clause-every
returns-in_err-vc-clause-every c item is written = absurd (has_colon c.args.text.now item (split_parts 58 c.args.text.now None c.in_err-vc.ensures.cases (omega arith)) written)

pub returns-in_err-vc-2-clause-every : goal.returns-in_err-vc-2-clause-every
returns-in_err-vc-2-clause-every c item is written =
    let split = split_parts 58 c.args.text.now (Some (c.in_ok-vc.vc, c.in_ok-vc.vr)) c.in_ok-vc.ensures.cases (omega arith) in
    let parts = item_parts c.args.least c.args.text.now c.in_ok-vc.vc.now c.in_ok-vc.vr.now item split.0 split.1 is written in
    absurd (none-some _ (c.in_err-vc-2.ensures.every item.vc (omega (arith, is.high)) parts.0))

pub returns-in_err-vr-clause-every : goal.returns-in_err-vr-clause-every
returns-in_err-vr-clause-every c item is written =
    let split = split_parts 58 c.args.text.now (Some (c.in_ok-vc.vc, c.in_ok-vc.vr)) c.in_ok-vc.ensures.cases (omega arith) in
    let parts = item_parts c.args.least c.args.text.now c.in_ok-vc.vc.now c.in_ok-vc.vr.now item split.0 split.1 is written in
    absurd (none-some _ (c.in_err-vr.ensures.every item.vr is.octet parts.1))

pub returns-then-vc-le63-clause-every : goal.returns-then-vc-le63-clause-every
returns-then-vc-le63-clause-every c item is written =
    let split = split_parts 58 c.args.text.now (Some (c.in_ok-vc.vc, c.in_ok-vc.vr)) c.in_ok-vc.ensures.cases (omega arith) in
    let parts = item_parts c.args.least c.args.text.now c.in_ok-vc.vc.now c.in_ok-vc.vr.now item split.0 split.1 is written in
    ap (λ n. Some (n, c.in_ok-vr.vr)) (same_Some _ _ (c.in_ok-vc-2.ensures.every item.vc (omega (arith, is.high)) parts.0))
    ∙ ap (λ n. Some (item.vc, n)) (same_Some _ _ (c.in_ok-vr.ensures.every item.vr is.octet parts.1))

pub returns-else-least-vc-clause-every : goal.returns-else-least-vc-clause-every
returns-else-least-vc-clause-every c item is written =
    let split = split_parts 58 c.args.text.now (Some (c.in_ok-vc.vc, c.in_ok-vc.vr)) c.in_ok-vc.ensures.cases (omega arith) in
    let parts = item_parts c.args.least c.args.text.now c.in_ok-vc.vc.now c.in_ok-vc.vr.now item split.0 split.1 is written in
    let same : c.in_ok-vc-2.vc ≡ item.vc = same_Some _ _ (c.in_ok-vc-2.ensures.every item.vc (omega (arith, is.high)) parts.0) in
    elim c.else-least-vc.branch [
      | else-least-vc-via-then-least-vc+else-vc-le63 w ↦ absurd (omega (arith, same, is.high, w.if-vc-le63.false))
      | else-least-vc-via-else-least-vc w ↦ absurd (omega (arith, same, is.low, w.if-least-vc.false))
    ]
