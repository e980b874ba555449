use Rattle.std.proofs.Common.{append_assoc, refl}
use Rattle.sl_engine.specs.Compare.Text.{mark}
use Rattle.sl_engine.specs.Verbs.Packets.Line.{packet_text}
use Rattle.sl_engine.specs.Verbs.Packets.Printed.{channel_name}
use Rattle.sl_engine.proofs.lemmas.Io.Streams.{adds_both, adds_lines, stops_before, stops_then}
use Rattle.sl_engine.proofs.lemmas.Link.Answers.{passed_up}
use Rattle.sl_engine.proofs.compare.text.write_packet.Goals as goal

pub returns-in_err-make_room-clause-fault : goal.returns-in_err-make_room-clause-fault
returns-in_err-make_room-clause-fault g c = passed_up _ _ c.from_residual.ensures.1 (stops_before _ _ c.in_err-make_room.ensures.fault)

pub returns-in_err-push_packet_text-clause-fault :
    goal.returns-in_err-push_packet_text-clause-fault
returns-in_err-push_packet_text-clause-fault g c =
    let name = channel_name c.args.names c.args.channel in
    let text = packet_text c.args.one.now.packet in
    let begun = adds_both (adds_both c.in_ok-make_room.ensures.kept (adds_lines _ _ _ (mark c.args.station) refl c.push_mark.ensures.text)) (adds_lines _ _ _ name refl c.push_channel.ensures.text) in
    passed_up _ _ c.from_residual-in_err-push_packet_text.ensures.1
    (rw (append_assoc (mark c.args.station) name text) at (stops_then text begun (rw c.packet.ensures.octets at c.in_err-push_packet_text.ensures.fault)))

pub returns-clause-line : goal.returns-clause-line
returns-clause-line g c =
    let name = channel_name c.args.names c.args.channel in
    let begun = adds_both (adds_both c.in_ok-make_room.ensures.kept (adds_lines _ _ _ (mark c.args.station) refl c.push_mark.ensures.text)) (adds_lines _ _ _ name refl c.push_channel.ensures.text) in
    let adds = adds_both begun (rw c.packet.ensures.octets at c.in_ok-push_packet_text.ensures.line) in
    rw (append_assoc (mark c.args.station) name (packet_text c.args.one.now.packet)) at adds
