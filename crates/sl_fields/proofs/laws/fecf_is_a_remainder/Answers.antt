use Rattle.sl_fields.proofs.RemainderLemmas.{field_is_remainder}
use Rattle.sl_fields.proofs.laws.fecf_is_a_remainder.Goals as goal

pub returns : goal.returns
returns c = field_is_remainder
