use Rattle.sl_tcframe.proofs.VcTextLemmas.{lists_once}
use Rattle.sl_tcframe.proofs.laws.texts_list_channels_once.Goals as goal

pub returns : goal.returns
returns c = lists_once
