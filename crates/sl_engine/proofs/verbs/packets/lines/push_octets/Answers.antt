use Rattle.std.proofs.Common.{◌≡◌, ◌++◌, refl, sym}
use Rattle.std.proofs.lemmas.List.{take-append-drop}
use Rattle.sl_engine.proofs.lemmas.Io.Streams.{adds_both, adds_lines}
use Rattle.sl_engine.proofs.lemmas.Link.Answers.{passed_up}
use Rattle.sl_engine.proofs.lemmas.Verbs.Packets.Printer.{pushing_none, pushing_next, pushing_stops}
use Rattle.sl_engine.proofs.verbs.packets.lines.push_octets.Goals as goal

pub loop-left-init : goal.loop-left-init
loop-left-init g c = pushing_none c.args.out.now c.args.octets.now

pub returns-in_err-make_room-clause-fault : goal.returns-in_err-make_room-clause-fault
returns-in_err-make_room-clause-fault g c = passed_up _ _ c.from_residual.ensures.1 (pushing_stops c.loop-left.invariant c.in_err-make_room.ensures.fault)

pub loop-left-preserved : goal.loop-left-preserved
loop-left-preserved g c =
    let left = c.loop-left.left.now in
    let parts : left ≡ c.split_at.result.0.now ++ c.split_at.result.1.now =
    rw (c.split_at.ensures.front, c.split_at.ensures.back) (sym (take-append-drop c.min.result left)) in
    pushing_next c.loop-left.invariant _ _ parts (adds_both c.in_ok-make_room.ensures.kept (adds_lines _ _ _ _ refl c.push_hex.ensures))
