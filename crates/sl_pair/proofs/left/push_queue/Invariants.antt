use Rattle.std.proofs.Common.{◌≡◌, ◌++◌, map}
use Rattle.std.specs.VecDeque.Iter.{deque_iter_rest}
use Rattle.sl_pair.specs.Left.{placed_at}
use Rattle.sl_pair.proofs.left.push_queue.Given as goal

-- those that were added, and those whose places are left
abbrev pub invariant-loop-place : goal.invariant-loop-place
invariant-loop-place l =
    l.left.items ++ map (placed_at l.octets) (deque_iter_rest l.place-iterator)
    ≡ l.fn.left.items ++ map (placed_at l.octets) l.queue.items
