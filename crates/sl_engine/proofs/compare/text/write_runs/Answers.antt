use Rattle.std.proofs.Common.{false, length-drop, ◌≡◌, ◌∙◌, ap, arith, drop, drop-drop, length, refl, take}
use Rattle.sl_pair.specs.Runs.{first_run}
use Rattle.sl_engine.specs.Compare.Text.{left_text}
use Rattle.sl_engine.specs.Verbs.Packets.Printed.{channel_name}
use Rattle.sl_engine.proofs.lemmas.Compare.Text.{runs_text_split, writing_next, writing_none, writing_stops}
use Rattle.sl_pair.proofs.OrderLemmas.{first_some}
use Rattle.sl_engine.proofs.lemmas.Io.Streams.{adds_both, adds_lines, stops_before}
use Rattle.sl_engine.proofs.lemmas.Link.Answers.{passed_up}
use Rattle.sl_engine.proofs.compare.text.write_runs.Goals as goal

pub loop-written-init : goal.loop-written-init
loop-written-init g c = (writing_none (left_text false c.args.station (channel_name c.args.names c.args.channel)) c.args.out.now c.args.left.now, omega arith)

pub returns-in_err-make_room-clause-fault : goal.returns-in_err-make_room-clause-fault
returns-in_err-make_room-clause-fault g c =
    let name = channel_name c.args.names c.args.channel in
    let later = drop c.loop-written.written c.args.left.now in
    passed_up _ _ c.from_residual.ensures.1 (writing_stops (left_text false c.args.station name) c.loop-written.invariant.0 _ (drop (first_run later) later)
    (runs_text_split c.args.station name later (omega (arith, length-drop c.loop-written.written c.args.left.now, c.loop-written-test.true))) (stops_before _ _ c.in_err-make_room.ensures.fault))

pub split_at-requires-in-loop-written : goal.split_at-requires-in-loop-written
split_at-requires-in-loop-written g c =
    omega (arith, c.first_run.ensures, (first_some c.split_at.result.1.now (omega (arith, c.split_at.ensures.back_len, c.loop-written-test.true))).1)

pub push_run-requires-clause-some : goal.push_run-requires-clause-some
push_run-requires-clause-some g c =
    omega (arith, c.split_at-in-loop-written.ensures.front_len, c.first_run.ensures, (first_some c.split_at.result.1.now (omega (arith, c.split_at.ensures.back_len, c.loop-written-test.true))).0)

pub loop-written-smaller : goal.loop-written-smaller
loop-written-smaller g c =
    let some = first_some c.split_at.result.1.now (omega (arith, c.split_at.ensures.back_len, c.loop-written-test.true)) in
    omega (arith, c.split_at-in-loop-written.ensures.front_len, c.first_run.ensures, some.0, some.1, c.split_at.ensures.back_len, c.loop-written-test.true)

pub loop-written-preserved : goal.loop-written-preserved
loop-written-preserved g c =
    let left = c.args.left.now in
    let at = c.loop-written.written in
    let later = drop at left in
    let name = channel_name c.args.names c.args.channel in
    let back = c.split_at.ensures.back in
    let some = first_some c.split_at.result.1.now (omega (arith, c.split_at.ensures.back_len, c.loop-written-test.true)) in
    let first : c.first_run.result ≡ first_run later = c.first_run.ensures ∙ ap first_run back in
    let run : c.split_at-in-loop-written.result.0.now ≡ take (first_run later) later = rw (first, back) at c.split_at-in-loop-written.ensures.front in
    let adds = adds_both c.in_ok-make_room.ensures.kept (adds_lines _ _ _ _ refl c.push_run.ensures) in
    let split = runs_text_split c.args.station name later (omega (arith, ap length back, c.split_at.ensures.back_len, c.loop-written-test.true)) in
    let next = writing_next (left_text false c.args.station name) c.loop-written.invariant.0 _ (drop (first_run later) later) split (rw run at adds) in
    let long : length c.split_at-in-loop-written.result.0.now ≡ first_run later = c.split_at-in-loop-written.ensures.front_len ∙ first in
    (rw (drop-drop (first_run later) at left, ← long) at next, omega (arith, c.split_at-in-loop-written.ensures.front_len, c.first_run.ensures, some.1, c.split_at.ensures.back_len, c.loop-written-test.true))
