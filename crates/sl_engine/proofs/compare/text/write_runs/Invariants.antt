use Rattle.std.proofs.Common.{◌-◌, ◌≤◌, drop, false, length}
use Rattle.sl_engine.specs.Compare.Text.{left_text}
use Rattle.sl_engine.specs.Verbs.Packets.Printed.{channel_name}
use Rattle.sl_engine.proofs.lemmas.Compare.Text.{IsWriting}
use Rattle.sl_engine.proofs.compare.text.write_runs.Given as goal

abbrev pub invariant-loop-written : goal.invariant-loop-written
invariant-loop-written g l =
    IsWriting g.W.Write.contents (left_text false l.station (channel_name l.names l.channel)) l.fn.out l.out l.left (drop l.written l.left)
    × (l.written ≤ length l.left)

abbrev pub decreases-loop-written : goal.decreases-loop-written
decreases-loop-written g l = length l.left - l.written
