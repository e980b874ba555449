use Rattle.sl_sync.proofs.CaduLemmas.{begins-whole}
use Rattle.sl_sync.proofs.cadu_units.CaduShapeUnits.push_unit.Goals as goal

pub frame_in-requires : goal.frame_in-requires
frame_in-requires c = begins-whole c.args.self.now c.requires.0 c.args.octets.now c.requires.1
