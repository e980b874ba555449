use Rattle.sl_packet.proofs.SamePackets.{same_items}
use Rattle.sl_packet.proofs.delivered.are_same.Goals as goal

pub returns : goal.returns
returns c = same_items _ _ c.eq.result c.eq.ensures
