use Rattle.sl_fields.proofs.RemainderLemmas.{division_finds_remainder, remainder_is_only_one}
use Rattle.sl_fields.proofs.laws.bits_have_one_remainder.Goals as goal

pub returns-clause-found : goal.returns-clause-found
returns-clause-found c = division_finds_remainder

pub returns-clause-only : goal.returns-clause-only
returns-clause-only c = remainder_is_only_one
