use Rattle.std.proofs.Common.{append_assoc}
use Rattle.sl_engine.proofs.verbs.show.lines_tc.push_content.Goals as goal

pub returns-in-Ad-clause-text : goal.returns-in-Ad-clause-text
returns-in-Ad-clause-text c = rw (c.push_unit.ensures.text, c.push_small_number.ensures.text, c.push.ensures, c.in-Ad.is) (simp append_assoc)
