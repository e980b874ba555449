use Rattle.std.proofs.Common.{◌∙◌, ap}
use Rattle.sl_fields.specs.TmHeader.{packets_header, tm_octets}
use Rattle.sl_tmframe.proofs.PacketFrameLemmas.{pointer_is}
use Rattle.sl_tmframe.proofs.packet_frame.frame_header.Goals as goal

pub returns : goal.returns
returns c =
    let pointer = c.unwrap_or-pointer.ensures ∙ pointer_is c.args.first in
    c.write.ensures.octets
    ∙ ap tm_octets (c.of_packets.ensures ∙ ap (packets_header c.args.spacecraft c.args.vc c.args.mc c.args.vcc) pointer)
