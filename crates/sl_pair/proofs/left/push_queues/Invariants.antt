use Rattle.std.proofs.Common.{◌≡◌, ◌++◌}
use Rattle.sl_pair.proofs.LeftLemmas.{all_placed, queue_places}
use Rattle.sl_pair.proofs.left.push_queues.Given as goal

-- those that were added, and those whose queues are left
abbrev pub invariant-loop-octets : goal.invariant-loop-octets
invariant-loop-octets g l =
    l.left.items ++ all_placed queue_places l.octets-iterator ≡ l.fn.left.items ++ all_placed queue_places l.queues.entries
