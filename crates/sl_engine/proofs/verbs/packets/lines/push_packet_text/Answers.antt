use Rattle.std.proofs.Common.{codes, refl}
use Rattle.sl_engine.specs.Verbs.Packets.Line.{fields_text}
use Rattle.sl_engine.proofs.lemmas.Io.Streams.{adds_both, adds_lines, adds_none, stops_first, stops_last, stops_then}
use Rattle.sl_engine.proofs.lemmas.Link.Answers.{passed_up}
use Rattle.sl_engine.proofs.verbs.packets.lines.push_packet_text.Goals as goal

pub returns-in_err-push_octets-clause-fault : goal.returns-in_err-push_octets-clause-fault
returns-in_err-push_octets-clause-fault g c =
    passed_up _ _ c.from_residual.ensures.1
    (stops_first _ _ (codes "\n") (stops_then _ (adds_lines _ c.args.out.now _ (fields_text c.args.packet.now) refl c.push_fields_text.ensures) c.in_err-push_octets.ensures.fault))

pub returns-in_err-make_room-clause-fault : goal.returns-in_err-make_room-clause-fault
returns-in_err-make_room-clause-fault g c =
    passed_up _ _ c.from_residual-in_err-make_room.ensures.1
    (stops_first _ _ (codes "\n") (stops_last (adds_both (adds_lines _ c.args.out.now _ (fields_text c.args.packet.now) refl c.push_fields_text.ensures) c.in_ok-push_octets.ensures.text)
    c.in_err-make_room.ensures.fault))

pub returns-clause-line : goal.returns-clause-line
returns-clause-line g c =
    adds_both
    (adds_none (adds_both (adds_lines _ c.args.out.now _ (fields_text c.args.packet.now) refl c.push_fields_text.ensures) c.in_ok-push_octets.ensures.text) c.in_ok-make_room.ensures.kept)
    (adds_lines _ _ _ (codes "\n") refl c.push.ensures)
