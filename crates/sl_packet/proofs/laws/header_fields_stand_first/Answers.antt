use Rattle.sl_packet.proofs.PacketLemmas.{header_fields}
use Rattle.sl_packet.proofs.laws.header_fields_stand_first.Goals as goal

pub returns : goal.returns
returns c = header_fields
