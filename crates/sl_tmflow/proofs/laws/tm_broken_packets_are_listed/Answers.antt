use Rattle.sl_tmflow.proofs.lemmas.Incomplete.BrokenOff.{each_listed_is_broken_off, each_broken_off_is_listed, one_is_broken_off, broken_off_is_short, broken_off_is_told, what_is_told_is_broken_off}
use Rattle.sl_tmflow.proofs.laws.tm_broken_packets_are_listed.Goals as goal

pub returns : goal.returns
returns c = record {
  each = each_listed_is_broken_off;
  all = each_broken_off_is_listed;
  one = one_is_broken_off;
  short = broken_off_is_short;
  told = broken_off_is_told;
  is_told = what_is_told_is_broken_off;
}
