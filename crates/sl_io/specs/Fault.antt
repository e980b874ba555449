-- The fault of an engine that couldn't hand packets on to its sink.
use Rattle.sl_packet.specs.declared.flow_fault.FlowFault.{FlowFault}
use Rattle.sl_packet.specs.declared.flow_fault.FlowFault.TheVariants as flow
use Rattle.sl_packet.specs.declared.sink.SinkFault.{SinkFault}
use Rattle.sl_packet.specs.declared.sink.SinkFault.TheVariants as sink
use Rattle.sl_io.specs.declared.fault.LinkFault.{LinkFault}
use Rattle.sl_io.specs.declared.fault.LinkFault.TheVariants.{Memory, Write}

-- The device of an engine's sink is the writer. No such sink has a rule by which it refuses packets.
abbrev pub sink_fault : SinkFault → LinkFault
sink_fault sink.Memory = Memory
sink_fault sink.Device = Write
sink_fault sink.Refused = Write

-- No engine goes on after a fault. So none passes `Failed`, which says that an earlier call failed, to this function.
abbrev pub flow_fault : FlowFault → LinkFault
flow_fault flow.Memory = Memory
flow_fault (flow.Sink fault) = sink_fault fault
flow_fault flow.Failed = Memory
