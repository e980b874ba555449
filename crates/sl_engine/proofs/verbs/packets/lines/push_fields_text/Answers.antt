use Rattle.std.proofs.Common.{◌≡◌, ◌∙◌, ap, append_assoc, refl, take}
use Rattle.sl_fields.specs.PacketHeader.{packet_header}
use Rattle.sl_engine.proofs.verbs.packets.lines.push_fields_text.Goals as goal

pub returns : goal.returns
returns c =
    let header : c.read.result ≡ packet_header (take 6 c.args.packet.now) = c.read.ensures ∙ ap packet_header c.front.ensures.front in
    rw (c.push_size.ensures, c.push_header.ensures.text, header, append_assoc) refl
