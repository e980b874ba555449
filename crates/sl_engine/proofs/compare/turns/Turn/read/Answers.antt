use Rattle.std.proofs.lemmas.Result.{MatchResult-weaker}
use Rattle.sl_engine.proofs.compare.turns.Turn.read.Goals as goal

pub read_chunk-requires-clause-ready : goal.read_chunk-requires-clause-ready
read_chunk-requires-clause-ready g c = let r = c.requires.ready in (r.0, c.args.self.now, r.1, r.2)

pub returns-clause-passed : goal.returns-clause-passed
returns-clause-passed g c =
    MatchResult-weaker c.read_chunk.result c.read_chunk.ensures.passed (λ taken after begun so_far s. after begun c.args.self.now so_far s) (λ _ u. u)

pub returns-clause-fault : goal.returns-clause-fault
returns-clause-fault g c =
    MatchResult-weaker c.read_chunk.result c.read_chunk.ensures.fault (λ _ u. u) (λ fault after begun so_far s. after begun c.args.self.now so_far s)
