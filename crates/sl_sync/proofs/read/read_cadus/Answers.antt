use Rattle.sl_sync.proofs.CaduLemmas.{cadu_rule_is_sound}
use Rattle.sl_sync.proofs.read.read_cadus.Goals as goal

pub read_units-requires : goal.read_units-requires
read_units-requires g c = cadu_rule_is_sound c.args.shape.now
