use Rattle.std.proofs.Common.{◌≡◌, ◌≤◌, ◌<◌, ℕ, None, length}
use Rattle.sl_packet.specs.Delivered.{channel_count}
use Rattle.sl_tcflow.specs.SeriesStore.{at}
use Rattle.sl_tcflow.proofs.series_store.SeriesStore.none_open_from.Given as goal

abbrev pub invariant-loop-from : goal.invariant-loop-from
invariant-loop-from l =
    (l.from ≤ channel_count) × (l.from ≤ length l.self.list)
    × ((channel : ℕ) → channel < channel_count → l.from ≤ channel → at l.self.list channel ≡ None)

abbrev pub decreases-loop-from : goal.decreases-loop-from
decreases-loop-from l = l.from
