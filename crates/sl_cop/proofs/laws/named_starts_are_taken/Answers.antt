use Rattle.sl_cop.proofs.StartsLemmas.{named_are_taken, others_are_kept, named_are_starts}
use Rattle.sl_cop.proofs.laws.named_starts_are_taken.Goals as goal

pub returns-clause-named : goal.returns-clause-named
returns-clause-named c = named_are_taken

pub returns-clause-others : goal.returns-clause-others
returns-clause-others c = others_are_kept

pub returns-clause-starts : goal.returns-clause-starts
returns-clause-starts c = named_are_starts
