use Rattle.sl_pair.proofs.FormsLemmas.{forms_are_one}
use Rattle.sl_pair.proofs.TurnsLemmas.{turns_dont_matter}
use Rattle.sl_pair.proofs.laws.turns_dont_matter.Goals as goal

pub returns : goal.returns
returns c = record { turns = turns_dont_matter; forms = forms_are_one }
