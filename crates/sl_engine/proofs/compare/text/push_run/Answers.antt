use Rattle.std.proofs.Common.{length}
use Rattle.sl_packet.specs.Packet.{apid_of}
use Rattle.sl_pair.specs.Runs.{count_of}
use Rattle.sl_engine.specs.Compare.Text.{mark, run_text}
use Rattle.sl_engine.proofs.lemmas.Compare.Text.{add_line, line_of_run}
use Rattle.sl_engine.specs.Verbs.Packets.Printed.{channel_name}
use Rattle.sl_engine.proofs.compare.text.push_run.Goals as goal

pub returns : goal.returns
returns c =
    let name = channel_name c.args.names c.args.channel in
    let first = c.index-run-0.result in
    let last = c.index-run-run.result in
    let line = line_of_run c.args.station name c.args.run.now c.index-run-0.result c.index-run-run.result c.requires.some c.index-run-0.is c.index-run-run.is in
    rw (c.push_run_text.ensures, c.push_channel.ensures.text, c.push_mark.ensures.text, line, c.apid.ensures, c.count.ensures, c.count-2.ensures) (add_line c.args.lines.now (mark c.args.station) name (run_text (apid_of first.packet) (count_of first.packet) (count_of last.packet) (length c.args.run.now)))
