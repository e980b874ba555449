use Rattle.std.proofs.Common.{◌≡◌, ℕ, ◌+◌, ◌-◌, ◌∙◌, sym, arith, ap, ◌++◌, append-nil, List, drop}
use Rattle.sl_sync.specs.CodeBlock.{blocks, data_of}
use Rattle.sl_sync.proofs.CodeBlockLemmas.{blocks-one, data-more}
use Rattle.sl_sync.proofs.code_block.push_blocks.Goals as goal

pub each-preserved : goal.each-preserved
each-preserved c =
    let more = c.goes_on.ensures.more c.each-test.true in
    let one = blocks-one (1024 - c.each.count) c.each.rest.now (omega (arith, more.0)) more.1 in
    let fewer : 1024 - c.each.count - 1 ≡ 1024 - (c.each.count + 1) = omega arith in
    let left : blocks (1024 - c.each.count) c.each.rest.now ≡ blocks (1024 - (c.each.count + 1)) c.behind-rest.result.now + 1 =
    one ∙ ap (λ (m : ℕ). blocks m (drop 8 c.each.rest.now) + 1) fewer
    ∙ ap (λ (r : List ℕ). blocks (1024 - (c.each.count + 1)) r + 1) (sym c.behind-rest.ensures) in
    record {
      counted = omega (arith, left, c.each.invariant.counted);
      added = rw (c.in_ok-extend_from_slice.ensures.items, c.behind-rest.ensures) (data-more c.args.text.now.items c.each.text.items c.args.octets.now c.each.rest.now c.each.count c.each.invariant.added);
      few = omega (arith, more.0);
    }

pub returns-clause-count : goal.returns-clause-count
returns-clause-count c = omega (arith, c.goes_on.ensures.done c.each-test.false, c.each.invariant.counted)

pub returns-clause-added : goal.returns-clause-added
returns-clause-added c =
    let n : c.each.count + 0 ≡ blocks 1024 c.args.octets.now = omega (arith, c.goes_on.ensures.done c.each-test.false, c.each.invariant.counted) in
    sym (append-nil c.each.text.items) ∙ c.each.invariant.added 0
    ∙ ap (λ (m : ℕ). c.args.text.now.items ++ data_of m c.args.octets.now) n
