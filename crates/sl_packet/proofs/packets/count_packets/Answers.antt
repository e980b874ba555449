use Rattle.std.proofs.Common.{sym, ◌∙◌, ap, arith}
use Rattle.sl_packet.proofs.HandOver.{counted_none, counted_room, counted_idle, counted_due, counted_all}
use Rattle.sl_packet.proofs.packets.count_packets.Goals as goal
use Rattle.sl_packet.proofs.packets.count_packets.Goals.{then-is_idle, else-is_idle}

pub loop-packet-init : goal.loop-packet-init
loop-packet-init c = counted_none c.args.octets.now

pub overflow_add-counted : goal.overflow_add-counted
overflow_add-counted c = omega (arith, counted_room c.loop-packet.invariant)

pub overflow_add-counted-else-is_idle : goal.overflow_add-counted-else-is_idle
overflow_add-counted-else-is_idle c = omega (arith, counted_room c.loop-packet.invariant)

pub loop-packet-preserved : goal.loop-packet-preserved
loop-packet-preserved c =
    let at = c.loop-packet.counted in
    let packet = c.in-Some.packet.now in
    let now = c.if-is_idle.counted in
    elim c.if-is_idle.branch [
      | then-is_idle w ↦
          rw (ap (λ h. h.packets) w.counted-is, ap (λ h. h.idle) w.counted-is)
          (counted_idle c.args.octets.now at.remainder.now at.packets at.idle c.loop-packet.invariant packet (sym c.in-Some.ensures)
          now.remainder.now (ap (λ h. h.remainder.now) w.counted-is) (sym c.is_idle.ensures ∙ w.if-is_idle.true))
      | else-is_idle w ↦
          rw (ap (λ h. h.packets) w.counted-is, ap (λ h. h.idle) w.counted-is)
          (counted_due c.args.octets.now at.remainder.now at.packets at.idle c.loop-packet.invariant packet (sym c.in-Some.ensures)
          now.remainder.now (ap (λ h. h.remainder.now) w.counted-is) (sym c.is_idle.ensures ∙ w.if-is_idle.false))
    ]

pub returns-clause-packets : goal.returns-clause-packets
returns-clause-packets c =
    let at = c.loop-packet.counted in
    (counted_all c.args.octets.now at.remainder.now at.packets at.idle c.loop-packet.invariant (sym c.in_default.ensures)).packets

pub returns-clause-idle : goal.returns-clause-idle
returns-clause-idle c =
    let at = c.loop-packet.counted in
    (counted_all c.args.octets.now at.remainder.now at.packets at.idle c.loop-packet.invariant (sym c.in_default.ensures)).idle

pub returns-clause-remainder : goal.returns-clause-remainder
returns-clause-remainder c =
    let at = c.loop-packet.counted in
    (counted_all c.args.octets.now at.remainder.now at.packets at.idle c.loop-packet.invariant (sym c.in_default.ensures)).rest
