use Rattle.std.proofs.Common.{refl}
use Rattle.sl_engine.specs.Verbs.Packets.Printed.{channel_name}
use Rattle.sl_engine.proofs.lemmas.Io.Streams.{adds_both, adds_lines, stops_before, stops_then}
use Rattle.sl_engine.proofs.lemmas.Link.Answers.{passed_up}
use Rattle.sl_engine.proofs.verbs.packets.printer.print_packet.Goals as goal

pub returns-in_err-make_room-clause-fault : goal.returns-in_err-make_room-clause-fault
returns-in_err-make_room-clause-fault g c = passed_up _ _ c.from_residual.ensures.1 (stops_before _ _ c.in_err-make_room.ensures.fault)

pub returns-in_err-push_packet_text-clause-fault : goal.returns-in_err-push_packet_text-clause-fault
returns-in_err-push_packet_text-clause-fault g c =
    passed_up _ _ c.from_residual-in_err-push_packet_text.ensures.1
    (stops_then _ (adds_both c.in_ok-make_room.ensures.kept (adds_lines _ _ _ (channel_name c.args.names c.args.channel) refl c.push_channel.ensures.text)) c.in_err-push_packet_text.ensures.fault)

pub returns-clause-line : goal.returns-clause-line
returns-clause-line g c =
    adds_both (adds_both c.in_ok-make_room.ensures.kept (adds_lines _ _ _ (channel_name c.args.names c.args.channel) refl c.push_channel.ensures.text)) c.in_ok-push_packet_text.ensures.line
