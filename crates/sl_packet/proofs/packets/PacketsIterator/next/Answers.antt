use Rattle.std.proofs.Common.{length, sym, ap, arith}
use Rattle.std.proofs.lemmas.List.{take_rest}
use Rattle.sl_packet.proofs.GivenPackets.{gives_packet, gives_none}
use Rattle.sl_packet.proofs.packets.PacketsIterator.next.Goals as goal

pub returns-in_err-packet-clause-steps : goal.returns-in_err-packet-clause-steps
returns-in_err-packet-clause-steps c = rw (c.from_residual.ensures, ← c.self.view_is) (gives_none c.self.inside.rest.now (sym c.in_err-packet.ensures))

pub returns-clause-steps : goal.returns-clause-steps
returns-clause-steps c =
    let left = c.self.inside.rest.now in
    let packet = c.in_ok-packet.packet in
    rw (take_rest, ← c.self.view_is) (gives_packet left packet (sym c.in_ok-packet.ensures))

pub returns-clause-goes : goal.returns-clause-goes
returns-clause-goes c =
    let left = c.self.inside.rest.now in
    let packet = c.in_ok-packet.packet in
    let less = ap length (gives_packet left packet (sym c.in_ok-packet.ensures)).packets in
    rw (take_rest, ← c.self.view_is) record {
      on = λ _. (tt, tt, omega arith);
      keeps = tt;
      rests = λ _. tt;
    }
