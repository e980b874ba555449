use Rattle.sl_pair.proofs.LostLemmas.{lacks_what_was_lost, sublist_lacks_only}
use Rattle.sl_pair.proofs.laws.a_sublist_lacks_only.Goals as goal

pub returns : goal.returns
returns c = record { only = sublist_lacks_only; lost = lacks_what_was_lost }
