use Rattle.sl_sync.proofs.RandomiserLemmas.{tm_sequence, tc_sequence}
use Rattle.sl_sync.proofs.randomiser.sequence_at.Goals as goal

pub returns-in-Tm : goal.returns-in-Tm
returns-in-Tm c = rw c.in-Tm.is (tm_sequence c.args.place c.requires)

pub returns-in-Tc : goal.returns-in-Tc
returns-in-Tc c = rw c.in-Tc.is (tc_sequence c.args.place c.requires)
