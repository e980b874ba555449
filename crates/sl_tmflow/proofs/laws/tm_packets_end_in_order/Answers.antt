use Rattle.sl_tmflow.proofs.lemmas.Delivery.End.{ends_are_in_order, each_ends_by_the_next_start, none_overlap}
use Rattle.sl_tmflow.proofs.lemmas.Incomplete.List.{one_is_incomplete, incomplete_is_short}
use Rattle.sl_tmflow.proofs.laws.tm_packets_end_in_order.Goals as goal

pub returns : goal.returns
returns c = record {
  in_order = ends_are_in_order;
  by_the_next = each_ends_by_the_next_start;
  apart = none_overlap;
  one = one_is_incomplete;
  short = incomplete_is_short;
}
