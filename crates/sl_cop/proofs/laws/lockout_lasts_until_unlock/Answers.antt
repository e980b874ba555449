use Rattle.sl_cop.proofs.FarmLemmas.{lockout_lasts_until_unlock}
use Rattle.sl_cop.proofs.laws.lockout_lasts_until_unlock.Goals as goal

pub returns-clause-until : goal.returns-clause-until
returns-clause-until c = lockout_lasts_until_unlock
