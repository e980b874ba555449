use Rattle.std.proofs.Common.{◌≡◌, ◌≤◌, ◌<◌, ℕ, false, drop}
use Rattle.sl_sync.specs.Cltu.{has_sequence, start_sequence}
use Rattle.sl_sync.proofs.cltu_units.next_start.Given as goal

abbrev pub invariant-loop-place : goal.invariant-loop-place
invariant-loop-place l = (j : ℕ) → 1 ≤ j → j < l.place → has_sequence l.shape start_sequence (drop j l.octets) ≡ false
