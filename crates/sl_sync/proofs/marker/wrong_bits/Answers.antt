use Rattle.std.proofs.Common.{◌<◌, ◌^◌, ◌≤◌, arith, get_or}
use Rattle.std.specs.Prelude.{bit_xor, count_ones}
use Rattle.std.proofs.lemmas.Nat.{ones-le, xor_of_8}
use Rattle.sl_sync.proofs.MarkerLemmas.{wrong_bits-at, wrong_bits-ended}
use Rattle.sl_sync.proofs.marker.wrong_bits.Goals as goal

pub loop-i-preserved : goal.loop-i-preserved
loop-i-preserved c =
    let here = wrong_bits-at c.args.marker.now c.args.octets.now c.loop-i.i (omega arith) (omega arith) in
    let ours : get_or c.args.marker.now c.loop-i.i 0 < 2 ^ 8 = omega (arith, c.type_inv.marker c.loop-i.i) in
    let theirs : get_or c.args.octets.now c.loop-i.i 0 < 2 ^ 8 = omega (arith, c.type_inv.octets c.loop-i.i) in
    let few : count_ones (bit_xor (get_or c.args.marker.now c.loop-i.i 0) (get_or c.args.octets.now c.loop-i.i 0)) ≤ 8 =
    ones-le 8 _ (xor_of_8 _ _ ours theirs) in
    record { so_far = omega (arith, here, c.loop-i.invariant.so_far); few = omega (arith, few) }

pub returns : goal.returns
returns c =
    let ended = wrong_bits-ended c.args.marker.now c.args.octets.now c.loop-i.i (omega arith) in
    omega (arith, ended, c.loop-i.invariant.so_far)
