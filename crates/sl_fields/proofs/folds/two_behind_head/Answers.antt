use Rattle.std.proofs.Common.{◌-◌, length, arith}
use Rattle.sl_fields.proofs.FecfFolds.{two_behind_head}
use Rattle.sl_fields.proofs.folds.two_behind_head.Goals as goal

pub returns : goal.returns
returns c =
    let octets = c.args.octets.now in
    rw (c.head.ensures, c.slice_at.ensures, c.slice_at-2.ensures) (two_behind_head (length octets - 32) octets (omega arith) (omega arith))
