use Rattle.std.proofs.Common.{arith}
use Rattle.std.proofs.lemmas.Fmt.{length-decimal-le}
use Rattle.sl_engine.proofs.io.digits.leading_of.Goals as goal

pub write_digits-start-requires : goal.write_digits-start-requires
write_digits-start-requires c = (length-decimal-le 16 c.args.number (omega arith) (omega (arith, c.requires)) (omega arith), omega arith)
