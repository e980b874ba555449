use Rattle.sl_tmflow.proofs.lemmas.Merge.{counts_tell_numbers}
use Rattle.sl_tmflow.proofs.laws.tm_counts_tell_numbers.Goals as goal

pub returns : goal.returns
returns c = counts_tell_numbers
