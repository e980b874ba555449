use Rattle.std.proofs.Common.{length}
use Rattle.sl_tcframe.proofs.vc_set.+read_from.Given as goal

abbrev pub decreases-read_from : goal.decreases-read_from
decreases-read_from l = length l.text.now
