use Rattle.std.proofs.Common.{refl, rules}
use Rattle.sl_fields.proofs.FecfLastTwo.{left-bytes}
use Rattle.sl_fields.proofs.halves.halved_64.Goals as goal

pub returns : goal.returns
returns c = left-bytes 4 2 refl 8 c.args.first c.args.second refl (search rules)
