-- The lines of a frame's packets, as the verb has them and as they are printed.
use Rattle.std.proofs.Common.{◌≡◌, List, arith, Result}
use Rattle.sl_packet.specs.Packets.{without_idle}
use Rattle.sl_tmframe.specs.declared.tm_frame.TmSkip.{TmSkip}
use Rattle.sl_tmframe.specs.TmFrame.{TmView}
use Rattle.sl_tcframe.specs.declared.tc_frame.TcSkip.{TcSkip}
use Rattle.sl_tcframe.specs.TcFrame.{TcView}
use Rattle.sl_tmflow.specs.VirtualChannel.{views_of}
use Rattle.sl_tcflow.specs.AcceptedUnit as accepted
use Rattle.sl_tcflow.specs.ReceptionParameters.{ReceptionParameters}
use Rattle.sl_tcflow.proofs.lemmas.Reception.Channel.{small_map}
use Rattle.sl_engine.specs.declared.verbs.packets.printer.ChannelName.TheVariants.{VirtualChannel, Map}
use Rattle.sl_engine.specs.Verbs.Packets.Printed.{ArePrinted, lines_on}
use Rattle.sl_engine.specs.Kind.Tc as tc_deliver
use Rattle.sl_engine.specs.Kind.Tm as tm_deliver
use Rattle.sl_engine.specs.Kind.Tc.{unit_channel_of, tc_kind}
use Rattle.sl_engine.specs.Kind.Tm.{tm_kind, vc_of}
use Rattle.sl_engine.specs.Link.Managed.{Parameters, reception_of, tc_format, tm_format}
use Rattle.sl_engine.specs.Verbs.Packets.Tc.{packets_tc_lines, tc_packet_lines_after}
use Rattle.sl_engine.specs.Verbs.Packets.Tm.{packets_tm_lines, tm_packet_lines_after}

tm_lines_are : (views : List TmView) (r : Result TmView TmSkip) → tm_packet_lines_after views r ≡ lines_on VirtualChannel (vc_of r) (without_idle (tm_deliver.ended_in views r))
tm_lines_are views r = grind arith

pub tm_printed : (p : Parameters) → ArePrinted (tm_kind p) VirtualChannel (packets_tm_lines p)
tm_printed p before frame = tm_lines_are (views_of (tm_format p) p.spacecraft before) (tm_deliver.as_read p frame)

-- the channel of a unit is named by its virtual channel and its MAP
tc_lines_are : (r : ReceptionParameters) (views : List TcView) (read : Result TcView TcSkip) → tc_packet_lines_after r views read ≡ lines_on Map (unit_channel_of r read) (without_idle (tc_deliver.ended_in r views read))
tc_lines_are r views read = grind (arith, small_map)

pub tc_printed : (p : Parameters) → ArePrinted (tc_kind p) Map (packets_tc_lines p)
tc_printed p before frame = tc_lines_are (reception_of p) (accepted.views_of (tc_format p) p.spacecraft before) (tc_deliver.as_read p frame)
