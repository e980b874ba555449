use Rattle.std.proofs.Common.{◌≡◌, ◌≤◌, ◌<◌, ℕ, false, drop}
use Rattle.sl_sync.specs.Marker.{is_marked}
use Rattle.sl_sync.proofs.marker.SyncMarker.find.Given as goal

abbrev pub invariant-loop-place : goal.invariant-loop-place
invariant-loop-place l = (j : ℕ) → l.from ≤ j → j < l.place → is_marked l.self (drop j l.octets) ≡ false
