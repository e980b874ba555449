use Rattle.std.proofs.Common.{◌≡◌, ℕ, List, drop}
use Rattle.std.specs.Prelude.{bytes_eq, unwrap_or}
use Rattle.std.specs.HashMap.{get_by}
use Rattle.sl_merge.specs.Twice.{no_times, times_more}
use Rattle.sl_merge.proofs.twice.payload_times.Given as goal

-- how often each payload came, and comes in the frames that are left
abbrev pub invariant-loop-item : goal.invariant-loop-item
invariant-loop-item g l =
    (octets : List ℕ)
    → times_more l.shape octets (unwrap_or (get_by (bytes_eq octets) l.times) no_times) (drop l.item-index l.items)
    ≡ times_more l.fn.shape octets no_times l.fn.items
