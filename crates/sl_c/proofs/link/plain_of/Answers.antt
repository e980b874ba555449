use Rattle.std.proofs.Common.{ℕ, ◌-◌, ◌<◌, length, arith, ◌∙◌}
use Rattle.sl_c.proofs.LinkLemmas.{none_set, not_set_here, set_here}
use Rattle.sl_c.proofs.link.plain_of.Goals as goal
use Rattle.sl_c.proofs.link.plain_of.Goals.{then-flags-vc, else-flags-vc}

pub loop-below-init : goal.loop-below-init
loop-below-init c = none_set c.args.flags.now c.new-plain.result c.told-flags c.new-plain.ensures

pub loop-below-preserved : goal.loop-below-preserved
loop-below-preserved c =
    let flags = c.args.flags.now in
    let vcs = c.loop-below.plain in
    let vc : ℕ = 63 - c.loop-below.below in
    let inside : vc < length flags = omega (arith, c.told-flags) in
    elim c.if-flags-vc.branch [
      | then-flags-vc w ↦ set_here flags vcs _ _ _ vc _ (omega arith) (omega arith) inside w.if-flags-vc.true (w.plain-is ∙ w.with-plain.ensures.value) c.loop-below.invariant
      | else-flags-vc w ↦ not_set_here flags vcs _ _ _ vc _ (omega arith) (omega arith) inside w.if-flags-vc.false w.plain-is c.loop-below.invariant
    ]
