use Rattle.std.proofs.lemmas.Result.{MatchResult-weaker, on_ok_weaker}
use Rattle.sl_pair.specs.Placed.{left_in}
use Rattle.sl_pair.specs.Runs.{by_apid}
use Rattle.sl_pair.specs.declared.channel.Station.TheVariants.{First, Second}
use Rattle.sl_engine.specs.Compare.Text.{left_text}
use Rattle.sl_engine.specs.Verbs.Packets.Printed.{channel_name}
use Rattle.sl_engine.proofs.lemmas.Io.Streams.{adds_both, stops_first, stops_then}
use Rattle.sl_engine.proofs.lemmas.Link.Answers.{passed_up}
use Rattle.sl_engine.proofs.compare.text.write_channel.Goals as goal

pub returns-in_err-write_station-clause-fault : goal.returns-in_err-write_station-clause-fault
returns-in_err-write_station-clause-fault g c =
    passed_up _ _ c.from_residual.ensures.1 (λ firsts seconds s.
    let name = channel_name c.args.names c.args.channel in
    let at = c.args.channel in
    stops_first c.args.out.now.lines (left_text c.args.each First name (by_apid (left_in (firsts at) (seconds at)))) (left_text c.args.each Second name (by_apid (left_in (seconds at) (firsts at))))
    (c.in_err-write_station.ensures.fault firsts seconds s))

pub returns-clause-lines : goal.returns-clause-lines
returns-clause-lines g c =
    on_ok_weaker c.write_station-2.result (λ lines firsts seconds s. adds_both (c.in_ok-write_station.ensures.lines firsts seconds s) (lines seconds firsts s)) c.write_station-2.ensures.lines

pub returns-clause-fault : goal.returns-clause-fault
returns-clause-fault g c =
    MatchResult-weaker c.write_station-2.result c.write_station-2.ensures.fault (λ _ u. u) (λ fault stops firsts seconds s.
    let name = channel_name c.args.names c.args.channel in
    let at = c.args.channel in
    stops_then (left_text c.args.each Second name (by_apid (left_in (seconds at) (firsts at)))) (c.in_ok-write_station.ensures.lines firsts seconds s) (stops seconds firsts s))
