use Rattle.sl_sync.proofs.CltuLemmas.{cltu_rule_is_sound}
use Rattle.sl_sync.proofs.read.read_cltus.Goals as goal

pub read_units-requires : goal.read_units-requires
read_units-requires g c = cltu_rule_is_sound c.args.shape.now
