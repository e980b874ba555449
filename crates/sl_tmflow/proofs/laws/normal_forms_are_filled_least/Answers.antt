use Rattle.sl_tmflow.proofs.lemmas.Form.Fill.{fill_is_least}
use Rattle.sl_tmflow.proofs.lemmas.Form.FieldStart.{each_pointer_is_least}
use Rattle.sl_tmflow.proofs.laws.normal_forms_are_filled_least.Goals as goal

pub returns : goal.returns
returns c = record { fill = fill_is_least; pointer = each_pointer_is_least }
