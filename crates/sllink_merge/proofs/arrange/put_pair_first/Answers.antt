use Rattle.std.proofs.lemmas.List.Sorted.{IsPermutation-trans}
use Rattle.sllink_merge.proofs.arrange.put_pair_first.Goals as goal

pub returns : goal.returns
returns g c = IsPermutation-trans _ _ _ c.swap.ensures.permutation c.swap-2.ensures.permutation
