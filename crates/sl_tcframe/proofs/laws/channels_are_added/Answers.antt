use Rattle.sl_tcframe.proofs.VcSetLemmas.{added, added_rise}
use Rattle.sl_tcframe.proofs.laws.channels_are_added.Goals as goal

pub returns-clause-added : goal.returns-clause-added
returns-clause-added c = added

pub returns-clause-rising : goal.returns-clause-rising
returns-clause-rising c = added_rise
