use Rattle.std.proofs.Common.{refl}
use Rattle.std.proofs.lemmas.Nat.{one_shl, and_mask}
use Rattle.sl_fields.proofs.bits.field.Goals as goal

pub returns-clause-value : goal.returns-clause-value
returns-clause-value c = rw (one_shl c.args.width 64 c.requires.narrow, and_mask) refl
