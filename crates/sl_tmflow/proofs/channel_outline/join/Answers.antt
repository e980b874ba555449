use Rattle.std.proofs.Common.{◌≡◌, ◌++◌, take, sym, ap, ◌∙◌}
use Rattle.sl_packet.specs.Front.{front_of}
use Rattle.sl_tmframe.specs.TmFrame.{Packets}
use Rattle.sl_tmflow.specs.Delivery.{Ends, field_continuation, front_continuation}
use Rattle.sl_tmflow.specs.Progress.{progress_continuation}
use Rattle.sl_tmflow.proofs.lemmas.Outline.{ended_idle, ended_packets}
use Rattle.sl_tmflow.proofs.channel_outline.join.Goals as goal

pub returns-in-Ends-clause-packets : goal.returns-in-Ends-clause-packets
returns-in-Ends-clause-packets c = λ octets h.
    let carried = c.args.field.now.octets.now in
    let first = c.args.field.now.first in
    let l = octets ++ carried in
    let all = c.plus-all.ensures.outline octets h in
    let ends : field_continuation octets (Packets first carried) ≡ Ends (take c.in-Ends.field-0 l) =
    ap (λ b. front_continuation first b carried l (front_of l)) (sym h.count) ∙ sym (c.progress_of.ensures.continuation l (c.need-need.ensures.need l all)) ∙ ap (λ p. progress_continuation p l) c.in-Ends.is in
    c.ended.ensures.packets ∙ ended_packets c.is_idle.result octets carried (take c.in-Ends.field-0 l) first ends (c.is_idle.ensures l all)

pub returns-in-Ends-clause-idle : goal.returns-in-Ends-clause-idle
returns-in-Ends-clause-idle c = λ octets h.
    let carried = c.args.field.now.octets.now in
    let first = c.args.field.now.first in
    let l = octets ++ carried in
    let all = c.plus-all.ensures.outline octets h in
    let ends : field_continuation octets (Packets first carried) ≡ Ends (take c.in-Ends.field-0 l) =
    ap (λ b. front_continuation first b carried l (front_of l)) (sym h.count) ∙ sym (c.progress_of.ensures.continuation l (c.need-need.ensures.need l all)) ∙ ap (λ p. progress_continuation p l) c.in-Ends.is in
    c.ended.ensures.idle ∙ ended_idle c.is_idle.result octets carried (take c.in-Ends.field-0 l) first ends (c.is_idle.ensures l all)
