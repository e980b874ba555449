use Rattle.sl_tmframe.proofs.PacketFrameLemmas.{length-packet_frame, packet_frame_back}
use Rattle.sl_tmframe.proofs.laws.packet_frames_are_read_back.Goals as goal

pub returns-clause-whole : goal.returns-clause-whole
returns-clause-whole c = length-packet_frame

pub returns-clause-read_back : goal.returns-clause-read_back
returns-clause-read_back c = packet_frame_back
