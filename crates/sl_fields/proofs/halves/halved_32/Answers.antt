use Rattle.std.proofs.Common.{refl, rules}
use Rattle.sl_fields.proofs.FecfLastTwo.{left-bytes}
use Rattle.sl_fields.proofs.halves.halved_32.Goals as goal

pub returns : goal.returns
returns c = left-bytes 2 1 refl 4 c.args.first c.args.second refl (search rules)
