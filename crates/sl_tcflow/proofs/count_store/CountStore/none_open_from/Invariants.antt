use Rattle.std.proofs.Common.{◌≡◌, ◌≤◌, ◌<◌, ℕ, None, length}
use Rattle.sl_packet.specs.Delivered.{channel_count}
use Rattle.sl_tcflow.specs.CountStore.{count_at}
use Rattle.sl_tcflow.proofs.count_store.CountStore.none_open_from.Given as goal

abbrev pub invariant-loop-from : goal.invariant-loop-from
invariant-loop-from l =
    (l.from ≤ channel_count) × (l.from ≤ length l.self)
    × ((channel : ℕ) → channel < channel_count → l.from ≤ channel → count_at l.self channel ≡ None)

abbrev pub decreases-loop-from : goal.decreases-loop-from
decreases-loop-from l = l.from
