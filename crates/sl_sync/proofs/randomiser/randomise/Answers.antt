use Rattle.std.proofs.Common.{◌∙◌, ◌*◌, ◌+◌, ap, sym, add-one, ◌++◌, List, ℕ, refl}
use Rattle.sl_sync.specs.Randomiser.{later}
use Rattle.sl_sync.proofs.RandomiserLemmas.{added-none, later_place, next_place, randomised-more, turned}
use Rattle.sl_sync.proofs.randomiser.randomise.Goals as goal
use Rattle.sl_sync.proofs.randomiser.randomise.Goals.{then-place-eq254, else-place-eq254}

pub loop-octet-init : goal.loop-octet-init
loop-octet-init c = record {
  so_far = ap (λ (t : List ℕ). t ++ c.args.octets.now) (sym (added-none c.args.randomiser 255));
  place = refl;
}

pub loop-octet-preserved : goal.loop-octet-preserved
loop-octet-preserved c =
    let r = c.args.randomiser in
    let i = c.loop-octet.octet-index in
    let at = c.loop-octet.invariant.place in
    let octet = c.sequence_at.ensures ∙ ap (λ (p : ℕ). later r (8 * p) 255) at ∙ turned r i in
    record {
      so_far = rw add-one (randomised-more r c.args.octets.now c.loop-octet.octets i _ octet c.loop-octet-test.true c.loop-octet.invariant.so_far);
      place = elim c.if-place-eq254.branch [
        | then-place-eq254 w ↦ w.place-is ∙ sym (next_place i (sym at ∙ w.if-place-eq254.true))
        | else-place-eq254 w ↦ w.place-is ∙ ap (λ (p : ℕ). p + 1) at ∙ sym (later_place i (λ e. w.if-place-eq254.false (at ∙ e)))
      ];
    }
