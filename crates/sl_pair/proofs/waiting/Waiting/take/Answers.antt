use Rattle.sl_pair.specs.Queue.{queued}
use Rattle.sl_pair.proofs.QueueLemmas.{none_at_front, none_queued-taken, waiting-taken}
use Rattle.sl_pair.proofs.waiting.Waiting.take.Goals as goal

pub returns-in-None-clause-left : goal.returns-in-None-clause-left
returns-in-None-clause-left g c =
    waiting-taken c.args.octets.now c.args.self.now.newest c.remove.new.self c.remove.ensures.updates
    (queued c.args.self.now.earlier) (queued c.pop_place.new.queues)
    (none_at_front (queued c.args.self.now.earlier c.args.octets.now) c.in-None.ensures.popped) c.pop_place.ensures.left

pub invariant_of-self-in-None : goal.invariant_of-self-in-None
invariant_of-self-in-None g c = record {
  earlier_have_newest =
      none_queued-taken c.args.octets.now c.args.self.now.newest c.remove.new.self
      (queued c.args.self.now.earlier) (queued c.pop_place.new.queues) c.args.self.now.earlier_have_newest
      c.remove.ensures.updates (none_at_front (queued c.args.self.now.earlier c.args.octets.now) c.in-None.ensures.popped) c.pop_place.ensures.left;
}
