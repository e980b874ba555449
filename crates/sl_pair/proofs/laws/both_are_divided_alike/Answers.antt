use Rattle.sl_pair.proofs.DividedLemmas.{both_have_same, each_is_divided, numbers_balance, others_order_is_nothing}
use Rattle.sl_pair.proofs.laws.both_are_divided_alike.Goals as goal

pub returns : goal.returns
returns c =
    record { order = others_order_is_nothing; divided = each_is_divided; same = both_have_same; numbers = numbers_balance }
