use Rattle.std.proofs.Common.{◌+◌, arith, drop, true}
use Rattle.sl_engine.specs.Compare.Text.{left_text}
use Rattle.sl_engine.specs.Verbs.Packets.Printed.{channel_name}
use Rattle.sl_engine.proofs.lemmas.Compare.Text.{packets_text_split, writing_next, writing_none, writing_stops}
use Rattle.sl_engine.proofs.lemmas.Link.Answers.{passed_up}
use Rattle.sl_engine.proofs.compare.text.write_packets.Goals as goal

pub loop-written-init : goal.loop-written-init
loop-written-init g c = (writing_none (left_text true c.args.station (channel_name c.args.names c.args.channel)) c.args.out.now c.args.left.now, omega arith)

pub returns-in_err-write_packet-clause-fault : goal.returns-in_err-write_packet-clause-fault
returns-in_err-write_packet-clause-fault g c =
    let name = channel_name c.args.names c.args.channel in
    let at = c.loop-written.written in
    passed_up _ _ c.from_residual.ensures.1 (writing_stops (left_text true c.args.station name) c.loop-written.invariant.0 _ (drop (at + 1) c.args.left.now)
    (packets_text_split c.args.station name c.args.left.now at c.index-left-written.result c.loop-written-test.true c.index-left-written.is) c.in_err-write_packet.ensures.fault)

pub loop-written-preserved : goal.loop-written-preserved
loop-written-preserved g c =
    let name = channel_name c.args.names c.args.channel in
    let at = c.loop-written.written in (
      writing_next (left_text true c.args.station name) c.loop-written.invariant.0 _ (drop (at + 1) c.args.left.now)
          (packets_text_split c.args.station name c.args.left.now at c.index-left-written.result c.loop-written-test.true c.index-left-written.is) c.in_ok-write_packet.ensures.line,
      omega (arith, c.loop-written-test.true),
    )
