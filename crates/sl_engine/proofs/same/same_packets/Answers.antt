use Rattle.sl_engine.proofs.lemmas.Kind.Delivery.{same_stored}
use Rattle.sl_engine.proofs.same.same_packets.Goals as goal

pub returns-clause-same : goal.returns-clause-same
returns-clause-same g c =
    let k = g.D.Followed.kind c.args.managed.now in
    let d = c.in_ok-stored.ensures.all in
    let e = c.in_ok-others.ensures.all in
    record {
      first = d.octets;
      second = e.octets;
      first_read = d.all;
      second_read = e.all;
      reported = same_stored k d.adds (k.frames_of d.octets) (k.frames_of e.octets) _ _ d.stored e.stored c.has_same_packets.ensures;
    }
