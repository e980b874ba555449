use Rattle.std.proofs.Common.{rules}
use Rattle.sl_engine.proofs.lemmas.Io.Hexadecimal.{sixteen_digits}
use Rattle.sl_engine.proofs.io.hexadecimal.sixteen_digits.Goals as goal

pub returns : goal.returns
returns c = search (rules, sixteen_digits, c.encode_to_slice.ensures.written, c.encode_to_slice.ensures.fits)
