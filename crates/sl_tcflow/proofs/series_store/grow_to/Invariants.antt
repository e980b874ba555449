use Rattle.std.proofs.Common.{◌≡◌, ◌≤◌, ◌+◌, ◌-◌, ℕ, max}
use Rattle.std.specs.Vec.{vec_len}
use Rattle.sl_tcflow.specs.SeriesStore.{at}
use Rattle.sl_tcflow.proofs.series_store.grow_to.Given as goal

abbrev pub invariant-loop-alloc : goal.invariant-loop-alloc
invariant-loop-alloc l =
    ((other : ℕ) → at l.list.items other ≡ at l.initial.list.items other)
    × (vec_len l.list ≤ max (vec_len l.initial.list) (l.index + 1))

abbrev pub decreases-loop-alloc : goal.decreases-loop-alloc
decreases-loop-alloc l = l.index + 1 - vec_len l.list
