use Rattle.sl_pair.specs.Queue.{queued}
use Rattle.sl_pair.proofs.QueueLemmas.{none_waits_iff}
use Rattle.sl_pair.proofs.waiting.Waiting.is_empty.Goals as goal

pub returns : goal.returns
returns g c =
    let w = c.args.self.now in
    let iff = none_waits_iff w.newest.entries (queued w.earlier) w.earlier_have_newest in
    ((λ empty. iff.0 (c.is_empty.ensures.0 empty)), (λ none. c.is_empty.ensures.1 (iff.1 none)))
