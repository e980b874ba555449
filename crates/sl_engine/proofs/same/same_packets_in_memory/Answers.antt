use Rattle.sl_engine.proofs.lemmas.Kind.Delivery.{same_stored}
use Rattle.sl_engine.proofs.same.same_packets_in_memory.Goals as goal

pub returns-clause-same : goal.returns-clause-same
returns-clause-same g c =
    let k = g.D.Followed.kind c.args.managed.now in
    let d = c.in_ok-stored.ensures.all in
    let e = c.in_ok-also.ensures.all in
    same_stored k d.0 (k.frames_of c.args.one.now) (k.frames_of c.args.other.now) _ _ d.1 e.1 c.has_same_packets.ensures
