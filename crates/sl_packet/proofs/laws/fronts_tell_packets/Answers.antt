use Rattle.sl_packet.proofs.FrontLemmas.{whole_is_a_packet, incomplete_may_become_whole}
use Rattle.sl_packet.proofs.laws.fronts_tell_packets.Goals as goal

pub returns-clause-whole : goal.returns-clause-whole
returns-clause-whole c = whole_is_a_packet

pub returns-clause-incomplete : goal.returns-clause-incomplete
returns-clause-incomplete c = incomplete_may_become_whole
