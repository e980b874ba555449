use Rattle.sl_tmflow.proofs.lemmas.Incomplete.List.{each_listed_is_incomplete, each_incomplete_is_listed, incomplete_is_counted, what_is_counted_is_incomplete}
use Rattle.sl_tmflow.proofs.lemmas.Incomplete.OneStart.{one_start_is_incomplete}
use Rattle.sl_tmflow.proofs.laws.tm_incomplete_packets_are_listed.Goals as goal

pub returns : goal.returns
returns c = record {
  each = each_listed_is_incomplete;
  all = each_incomplete_is_listed;
  one = one_start_is_incomplete;
  counted = incomplete_is_counted;
  is_counted = what_is_counted_is_incomplete;
}
