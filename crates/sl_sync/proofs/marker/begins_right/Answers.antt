use Rattle.std.proofs.Common.{arith}
use Rattle.std.proofs.lemmas.Bool.{leb-false}
use Rattle.sl_sync.proofs.MarkerLemmas.{front-few}
use Rattle.sl_sync.proofs.marker.begins_right.Goals as goal

pub returns-in-Some-Some : goal.returns-in-Some-Some
returns-in-Some-Some c many =
    let ours = c.in-Some-Some.ensures in
    let theirs = c.in-Some-Some.ensures' in
    let few = front-few c.args.marker.now c.args.octets.now ours.0 theirs.0 (λ k. omega (arith, c.type_inv.marker k))
    (λ k. omega (arith, c.type_inv.octets k)) in
    omega (arith, leb-false _ _ many, rw (← ours.1, ← theirs.1) at few)
