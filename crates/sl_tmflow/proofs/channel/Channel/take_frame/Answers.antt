use Rattle.std.proofs.Common.{◌+◌, ◌∙◌, ap, ap₂}
use Rattle.sl_packet.proofs.StoppingLemmas.{hands_both, hands_first, hands_same, hands_second}
use Rattle.sl_tmflow.specs.PacketStart.{whole_packets}
use Rattle.sl_tmflow.specs.StepReport.{StepReport}
use Rattle.sl_tmflow.proofs.channel.Channel.take_frame.Goals as goal

pub returns-in-Err-clause-hands_over : goal.returns-in-Err-clause-hands_over
returns-in-Err-clause-hands_over g c = hands_first _ c.in-Err.ensures.hands_over

pub returns-in-Err-take_starts-clause-hands_over : goal.returns-in-Err-take_starts-clause-hands_over
returns-in-Err-take_starts-clause-hands_over g c =
    hands_second c.in-Ok.ensures.hands_over
    (hands_same (c.from.ensures ∙ c.vc.ensures.value) (ap whole_packets c.field.ensures.value) c.in-Err-take_starts.ensures.hands_over)

pub returns-clause-hands_over : goal.returns-clause-hands_over
returns-clause-hands_over g c =
    hands_both
    (ap₂ (λ (a b : StepReport). a.packets + b.packets) c.continued.view_is c.started.view_is)
    (ap₂ (λ (a b : StepReport). a.idle + b.idle) c.continued.view_is c.started.view_is) c.in-Ok.ensures.hands_over
    (hands_same (c.from.ensures ∙ c.vc.ensures.value) (ap whole_packets c.field.ensures.value) c.in-Ok-take_starts.ensures.hands_over)
