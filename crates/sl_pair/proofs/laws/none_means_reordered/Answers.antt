use Rattle.sl_pair.proofs.ReorderedLemmas.{none_means_reordered, same_means_in_place}
use Rattle.sl_pair.proofs.laws.none_means_reordered.Goals as goal

pub returns : goal.returns
returns c = record { reordered = none_means_reordered; in_place = same_means_in_place }
