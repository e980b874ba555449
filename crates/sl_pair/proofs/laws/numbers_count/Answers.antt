use Rattle.sl_pair.proofs.OrderLemmas.{numbers_count}
use Rattle.sl_pair.proofs.laws.numbers_count.Goals as goal

pub returns : goal.returns
returns c = numbers_count
