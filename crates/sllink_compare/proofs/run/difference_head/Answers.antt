use Rattle.std.proofs.Common.{append_assoc}
use Rattle.sllink_compare.proofs.run.difference_head.Goals as goal

pub returns : goal.returns
returns c = simp append_assoc c.format.ensures.ok
