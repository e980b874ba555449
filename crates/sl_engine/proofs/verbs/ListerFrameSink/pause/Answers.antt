use Rattle.std.proofs.Common.{◌∙◌}
use Rattle.sl_engine.proofs.lemmas.Io.Streams.{stops_last, memory_weaker}
use Rattle.sl_engine.proofs.lemmas.Link.Answers.{both_err}
use Rattle.sl_engine.proofs.verbs.ListerFrameSink.pause.Goals as goal

pub returns-clause-fault : goal.returns-clause-fault
returns-clause-fault g c = both_err c.flush.result c.flush.ensures.lent c.flush.ensures.fault (λ lent fault s p start before t. (t.1, lent ∙ t.3.lent, stops_last t.3 (memory_weaker (λ never. absurd never) s)))
