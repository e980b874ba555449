use Rattle.sl_cop.proofs.FarmLemmas.{copies_are_accepted_once}
use Rattle.sl_cop.proofs.laws.copies_are_accepted_once.Goals as goal

pub returns : goal.returns
returns c = copies_are_accepted_once
