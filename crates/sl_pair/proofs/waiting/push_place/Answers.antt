use Rattle.std.proofs.Common.{◌≡◌, ◌∙◌, ◌∷◌, ◌++◌, [], None, Some, ap, cond, sym}
use Rattle.std.specs.Map.{lookup}
use Rattle.std.specs.Prelude.{bytes_eq}
use Rattle.std.specs.VecDeque.{deque_items}
use Rattle.sl_pair.specs.Queue.{places_in, queued}
use Rattle.sl_pair.proofs.QueueLemmas.{queued-other, queued-pushed}
use Rattle.sl_pair.proofs.waiting.push_place.Goals as goal
use Rattle.sl_pair.proofs.waiting.push_place.Goals.{in-Some, in-None}

pub returns-clause-pushed : goal.returns-clause-pushed
returns-clause-pushed g c = λ q.
    let p = c.in_ok-octets.octets in
    let m = c.args.queues.now in
    let same : p ≡ c.args.packet.now = c.in_ok-octets.ensures in
    let had : c.match-remove.queue.items ≡ queued m p = elim c.match-remove.branch [
      | in-Some w ↦ ap deque_items w.queue-is ∙ ap places_in (sym w.in-Some.is ∙ c.remove.ensures.value)
      | in-None w ↦ ap deque_items w.queue-is ∙ w.new-queue.ensures.items ∙ ap places_in (sym w.in-None.is ∙ c.remove.ensures.value)
    ] in
    queued-pushed p m c.remove.new.self c.insert.new.self c.push_back.new.self c.args.place c.remove.ensures.updates c.in_ok-insert.ensures.updates
    (c.in_ok-push_back.ensures.items ∙ ap (λ l. l ++ c.args.place ∷ []) had) q
    ∙ ap (λ k. queued m q ++ cond (bytes_eq q k) (c.args.place ∷ []) []) same

pub returns-clause-others_stay : goal.returns-clause-others_stay
returns-clause-others_stay g c = λ q other.
    let p = c.in_ok-octets.octets in
    let apart = ap (bytes_eq q) c.in_ok-octets.ensures ∙ other in
    queued-other p c.remove.new.self c.insert.new.self (Some c.push_back.new.self) c.in_ok-insert.ensures.updates q apart
    ∙ queued-other p c.args.queues.now c.remove.new.self None c.remove.ensures.updates q apart

pub returns-in_err-push_back-clause-others_stay : goal.returns-in_err-push_back-clause-others_stay
returns-in_err-push_back-clause-others_stay g c = λ q other.
    queued-other c.in_ok-octets.octets c.args.queues.now c.remove.new.self None c.remove.ensures.updates q
    (ap (bytes_eq q) c.in_ok-octets.ensures ∙ other)

pub returns-in_err-insert-clause-others_stay : goal.returns-in_err-insert-clause-others_stay
returns-in_err-insert-clause-others_stay g c = λ q other.
    let p = c.in_ok-octets.octets in
    let apart = ap (bytes_eq q) c.in_ok-octets.ensures ∙ other in
    ap (λ es. places_in (lookup (bytes_eq q) es)) c.in_err-insert.ensures.err
    ∙ queued-other p c.args.queues.now c.remove.new.self None c.remove.ensures.updates q apart
