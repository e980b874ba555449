use Rattle.std.proofs.Common.{◌∙◌}
use Rattle.sl_engine.proofs.lemmas.Link.Answers.{both_err, both_ok}
use Rattle.sl_engine.proofs.lemmas.Verbs.Lister.{frame_added, frame_stopped}
use Rattle.sl_engine.proofs.verbs.ListerFrameSink.frame.Goals as goal

pub returns-clause-taken : goal.returns-clause-taken
returns-clause-taken g c =
    both_ok c.frame.result c.frame.ensures.has_listed c.frame.ensures.lines (λ has_listed lines start before t.
    (t.0, t.1, has_listed before t.2, frame_added (g.V.Verb.listing c.args.managed.now).lines before c.args.frame.now t.3 (lines before t.2)))

pub returns-clause-fault : goal.returns-clause-fault
returns-clause-fault g c =
    both_err c.frame.result c.frame.ensures.lent c.frame.ensures.fault (λ lent fault s start before t. (t.1, lent ∙ t.3.lent, frame_stopped (g.V.Verb.listing c.args.managed.now).lines before c.args.frame.now t.3 (s before t.2)))
