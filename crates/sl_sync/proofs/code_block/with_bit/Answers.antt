use Rattle.std.proofs.Common.{◌<◌, ◌*◌, ◌+◌, ◌/◌, ◌%◌, ◌^◌, arith}
use Rattle.std.proofs.lemmas.Nat.{xor_lt}
use Rattle.sl_sync.proofs.code_block.with_bit.Goals as goal

pub returns-clause-small : goal.returns-clause-small
returns-clause-small c =
    let low : c.args.register * 2 % 128 < 2 ^ 7 = omega arith in
    let high : (c.args.register / 64 + c.args.bit) % 2 * 0x45 < 2 ^ 7 = omega arith in
    xor_lt 7 _ _ low high
