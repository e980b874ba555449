use Rattle.std.proofs.Common.{◌≡◌, ◌≤◌, ◌+◌, ◌-◌, length, drop}
use Rattle.sl_pair.specs.Runs.{first_run}
use Rattle.sl_pair.proofs.runs.first_run.Given as goal

abbrev pub invariant-loop-packets : goal.invariant-loop-packets
invariant-loop-packets l =
    (1 ≤ l.packets) × (l.packets ≤ length l.left) × (first_run l.left + 1 ≡ l.packets + first_run (drop (l.packets - 1) l.left))

abbrev pub decreases-loop-packets : goal.decreases-loop-packets
decreases-loop-packets l = length l.left - l.packets
