use Rattle.std.proofs.Common.{[], rules}
use Rattle.std.proofs.lemmas.Result.{IfOk-from_err}
use Rattle.sl_engine.proofs.lemmas.Kind.Delivery.{none_delivered, none_stored}
use Rattle.sl_engine.proofs.lemmas.Framing.Reading.{memory_of}
use Rattle.sl_engine.proofs.lemmas.Link.Answers.{passed_up}
use Rattle.sl_engine.proofs.normalise.store_packets.Goals as goal

pub read_recording-requires-clause-begun : goal.read_recording-requires-clause-begun
read_recording-requires-clause-begun g c =
    let p = c.args.managed.now in
    let k = g.D.Followed.kind p in
    let laws = (g.D.Followed.within _ p [] c.begin.ensures).adds in
    (rw c.none.ensures (none_delivered k laws c.begin.ensures), none_stored k laws _ c.new.ensures.lists)

pub returns-clause-all : goal.returns-clause-all
returns-clause-all g c = let all = rw (g.met.D.Followed.frames c.args.managed.now) at c.in_ok-octets.ensures.all in search rules

pub returns-in_err-octets-clause-all : goal.returns-in_err-octets-clause-all
returns-in_err-octets-clause-all g c = IfOk-from_err c.from_residual.result _ c.from_residual.ensures.0

pub returns-in_err-octets-clause-memory : goal.returns-in_err-octets-clause-memory
returns-in_err-octets-clause-memory g c =
    passed_up _ _ c.from_residual.ensures.1 (memory_of c.in_err-octets.ensures.fault (g.met.D.Followed.frames c.args.managed.now) (λ frames t. t.1))
