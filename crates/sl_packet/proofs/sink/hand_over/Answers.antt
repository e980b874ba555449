use Rattle.std.proofs.Common.{◌+◌, length, sym, ◌∙◌, ap}
use Rattle.sl_packet.proofs.HandOver.{handed_at, handed_idle, handed_due, handed_all}
use Rattle.sl_packet.proofs.sink.hand_over.Goals as goal
use Rattle.sl_packet.proofs.sink.hand_over.Goals.{then-is_idle, else-is_idle+in_ok-packet}

pub loop-packet-preserved : goal.loop-packet-preserved
loop-packet-preserved g c =
    let taking = g.S.PacketSink.taking in
    let failures = g.S.PacketSink.failures in
    let old = c.args.sink.now in
    let octets = c.args.octets.now in
    let at = c.loop-packet in
    let packet = c.in-Some.packet.now in
    elim c.if-is_idle.branch [
      | then-is_idle w ↦
          handed_at taking failures old c.args.channel octets at.handed.remainder.now c.if-is_idle.handed.remainder.now (length packet) at.sink c.if-is_idle.sink
          at.handed.packets c.if-is_idle.handed.packets (at.handed.idle + 1) c.if-is_idle.handed.idle
          (ap (λ h. h.remainder.now) w.handed-is) w.sink-is (ap (λ h. h.packets) w.handed-is) (ap (λ h. h.idle) w.handed-is)
          (handed_idle taking failures old c.args.channel octets at.handed.remainder.now at.sink at.handed.packets at.handed.idle at.invariant packet
          (sym c.in-Some.ensures) (sym c.is_idle.ensures ∙ w.if-is_idle.true))
      | else-is_idle+in_ok-packet w ↦
          let took = w.in_ok-packet.ensures in
          handed_at taking failures old c.args.channel octets at.handed.remainder.now c.if-is_idle.handed.remainder.now (length packet) w.packet.new.self c.if-is_idle.sink
          (at.handed.packets + 1) c.if-is_idle.handed.packets at.handed.idle c.if-is_idle.handed.idle
          (ap (λ h. h.remainder.now) w.handed-is) w.sink-is (ap (λ h. h.packets) w.handed-is) (ap (λ h. h.idle) w.handed-is)
          (handed_due taking failures old c.args.channel octets at.handed.remainder.now at.sink at.handed.packets at.handed.idle at.invariant packet w.packet.new.self
          (sym c.in-Some.ensures) (sym c.is_idle.ensures ∙ w.if-is_idle.false) took.accepted took.kept)
    ]

pub returns-clause-accepted : goal.returns-clause-accepted
returns-clause-accepted g c =
    let at = c.loop-packet in
    (handed_all g.S.PacketSink.taking g.S.PacketSink.failures c.args.sink.now c.args.channel c.args.octets.now at.handed.remainder.now at.sink at.handed.packets at.handed.idle at.invariant
    (sym c.in_default.ensures)).accepted

pub returns-clause-packets : goal.returns-clause-packets
returns-clause-packets g c =
    let at = c.loop-packet in
    (handed_all g.S.PacketSink.taking g.S.PacketSink.failures c.args.sink.now c.args.channel c.args.octets.now at.handed.remainder.now at.sink at.handed.packets at.handed.idle at.invariant
    (sym c.in_default.ensures)).packets

pub returns-clause-idle : goal.returns-clause-idle
returns-clause-idle g c =
    let at = c.loop-packet in
    (handed_all g.S.PacketSink.taking g.S.PacketSink.failures c.args.sink.now c.args.channel c.args.octets.now at.handed.remainder.now at.sink at.handed.packets at.handed.idle at.invariant
    (sym c.in_default.ensures)).idle

pub returns-clause-remainder : goal.returns-clause-remainder
returns-clause-remainder g c =
    let at = c.loop-packet in
    (handed_all g.S.PacketSink.taking g.S.PacketSink.failures c.args.sink.now c.args.channel c.args.octets.now at.handed.remainder.now at.sink at.handed.packets at.handed.idle at.invariant
    (sym c.in_default.ensures)).rest
