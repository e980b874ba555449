use Rattle.sl_engine.proofs.lemmas.Io.Streams.{stops_before}
use Rattle.sl_engine.proofs.lemmas.Link.Answers.{passed_up}
use Rattle.sl_engine.proofs.verbs.show.ShowVerb.finish.Goals as goal

pub returns-in_err-make_room-clause-fault : goal.returns-in_err-make_room-clause-fault
returns-in_err-make_room-clause-fault g c =
    passed_up _ _ c.from_residual.ensures.1 (λ frames h. stops_before _ _ c.in_err-make_room.ensures.fault)
