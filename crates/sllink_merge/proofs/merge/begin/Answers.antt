use Rattle.sllink_merge.proofs.MergeLemmas.{merged_two}
use Rattle.sllink_merge.proofs.merge.begin.Goals as goal

pub returns-in-Ok : goal.returns-in-Ok
returns-in-Ok g c = merged_two c.in-Ok.ensures
