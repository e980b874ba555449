use Rattle.std.proofs.Common.{◌∙◌, take, sym, ap, subst}
use Rattle.sl_packet.specs.Packet.{IsPacket}
use Rattle.sl_tmframe.specs.TmFrame.{Packets}
use Rattle.sl_tmflow.specs.Progress.{progress_continuation}
use Rattle.sl_tmflow.proofs.lemmas.Delivery.Step.{field_ends}
use Rattle.sl_tmflow.proofs.channel.Channel.join.Goals as goal

pub hand_packet-outcome-requires-clause-packet : goal.hand_packet-outcome-requires-clause-packet
hand_packet-outcome-requires-clause-packet g c =
    let all = c.add_field.new.held.items in
    let packet = take c.in-Ends.len all in
    let step = sym c.in-Ok.ensures.continuation ∙ ap (λ it. progress_continuation it all) c.in-Ends.is in
    subst (λ l. IsPacket (take c.in-Ends.len l)) (sym c.as_slice.ensures.value)
    (field_ends c.self.inside.held.items (Packets c.args.field.now.first c.args.field.now.octets.now) packet step).is_packet
