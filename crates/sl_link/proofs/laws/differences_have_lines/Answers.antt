use Rattle.sl_link.proofs.lemmas.Laws.Compared.{tc_differences, tm_differences}
use Rattle.sl_link.proofs.laws.differences_have_lines.Goals as goal

pub returns-clause-tm : goal.returns-clause-tm
returns-clause-tm c = tm_differences

pub returns-clause-tc : goal.returns-clause-tc
returns-clause-tc c = tc_differences
