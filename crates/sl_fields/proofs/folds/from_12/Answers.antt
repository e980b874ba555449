use Rattle.std.proofs.Common.{arith}
use Rattle.sl_fields.proofs.FecfSlices.{picked}
use Rattle.sl_fields.proofs.folds.from_12.Goals as goal

pub returns : goal.returns
returns c = picked 12 c.args.left c.args.right (omega arith) c.fits-left.0 c.fits-right.0
