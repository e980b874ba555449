use Rattle.sl_pair.proofs.FormsLemmas.{places_have_packets}
use Rattle.sl_pair.proofs.OnlyInLemmas.{copies_are_subtracted, order_is_kept}
use Rattle.sl_pair.proofs.laws.only_one_has_the_surplus.Goals as goal

pub returns : goal.returns
returns c = record { copies = copies_are_subtracted; order = order_is_kept; places = places_have_packets }
