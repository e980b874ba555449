use Rattle.sl_cop.proofs.StartsLemmas.{one_is_changed, changed_are_starts}
use Rattle.sl_cop.proofs.laws.one_start_is_changed.Goals as goal

pub returns-clause-changed : goal.returns-clause-changed
returns-clause-changed c = one_is_changed

pub returns-clause-starts : goal.returns-clause-starts
returns-clause-starts c = changed_are_starts
