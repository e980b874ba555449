use Rattle.std.proofs.Common.{◌≡◌, ◌∙◌, Some, [], ap, sym, drop, length, eqb-true, arith, rules}
use Rattle.std.specs.Prelude.{bytes_eq}
use Rattle.std.specs.HashMap.{get_by}
use Rattle.std.specs.VecDeque.{deque_len}
use Rattle.std.proofs.lemmas.List.{nil_from_length}
use Rattle.sl_pair.specs.Queue.{places_in}
use Rattle.sl_pair.proofs.QueueLemmas.{queued-emptied, queued-popped}
use Rattle.sl_pair.proofs.waiting.pop_place.Goals as goal

pub returns-then-is_empty-2-clause-left : goal.returns-then-is_empty-2-clause-left
returns-then-is_empty-2-clause-left g c =
    let p = c.args.octets.now in
    let m = c.args.queues.now in
    let had = c.in_ok-queue.queue.now in
    let w = c.pop_front-place.new.self in
    let mid = c.get_mut.follows.lender w in
    let found : Some had ≡ get_by (bytes_eq p) m = search rules in
    let zero : length w.items ≡ 0 = omega (arith, w.ok, eqb-true (deque_len w) 0 (sym c.is_empty-2.ensures ∙ c.if-is_empty-2.true)) in
    let none : w.items ≡ [] = nil_from_length w.items zero in
    queued-emptied p m mid c.remove.new.self w
    ((c.get_mut.follows.holds w).3 (search rules)) c.remove.ensures.updates
    (c.pop_front-place.ensures.rest ∙ ap (λ o. drop 1 (places_in o)) found) none

pub returns-else-is_empty-2-clause-left : goal.returns-else-is_empty-2-clause-left
returns-else-is_empty-2-clause-left g c =
    let p = c.args.octets.now in
    let m = c.args.queues.now in
    let had = c.in_ok-queue.queue.now in
    let w = c.pop_front-place.new.self in
    let found : Some had ≡ get_by (bytes_eq p) m = search rules in
    queued-popped p m (c.get_mut.follows.lender w) (Some w) ((c.get_mut.follows.holds w).3 (search rules))
    (c.pop_front-place.ensures.rest ∙ ap (λ o. drop 1 (places_in o)) found)
