use Rattle.sl_tmflow.proofs.lemmas.Delivery.Listed.{each_is_delivery, each_is_listed, are_in_order}
use Rattle.sl_tmflow.proofs.laws.tm_deliveries_are_listed.Goals as goal

pub returns : goal.returns
returns c = record { each = each_is_delivery; all = each_is_listed; in_order = are_in_order }
