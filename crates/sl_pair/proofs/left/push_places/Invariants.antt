use Rattle.std.proofs.Common.{◌≡◌, ◌++◌}
use Rattle.sl_pair.proofs.LeftLemmas.{all_placed, one_place}
use Rattle.sl_pair.proofs.left.push_places.Given as goal

-- those that were added, and those whose places are left
abbrev pub invariant-loop-octets : goal.invariant-loop-octets
invariant-loop-octets g l =
    l.left.items ++ all_placed one_place l.octets-iterator ≡ l.fn.left.items ++ all_placed one_place l.places.entries
