use Rattle.sl_cop.proofs.StartsTextLemmas.{lists_once}
use Rattle.sl_cop.proofs.laws.texts_list_starts_once.Goals as goal

pub returns : goal.returns
returns c = lists_once
