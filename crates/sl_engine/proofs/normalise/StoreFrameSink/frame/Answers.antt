use Rattle.std.proofs.Common.{arith, inl, inr, ◌++◌, ◌∷◌, []}
use Rattle.sl_engine.proofs.lemmas.Kind.Delivery.{delivered_more, fits_more, stored_more, packets_more}
use Rattle.sl_engine.proofs.lemmas.Link.Answers.{passed_up}
use Rattle.sl_engine.proofs.lemmas.Link.Fault.{memory_refused, incomplete_or_some}
use Rattle.sl_engine.proofs.normalise.StoreFrameSink.frame.Goals as goal

pub add-requires-clause-within : goal.add-requires-clause-within
add-requires-clause-within g c =
    let p = c.args.managed.now in
    let before = c.requires.before in
    let d = c.requires.taken.0 in
    let within = g.D.Followed.within in
    fits_more (g.D.Followed.kind p) (within _ p before d.processed).adds d (c.in_ok-report.ensures.delivers before d.processed).brings.reported
    (within _ p (before ++ c.args.frame.now ∷ []) (c.in_ok-report.ensures.processed before d.processed))

pub returns-in_err-report-clause-fault : goal.returns-in_err-report-clause-fault
returns-in_err-report-clause-fault g c =
    passed_up _ _ c.from_residual.ensures.1 (λ start before t.
    let p = c.args.managed.now in
    let had = t.0.processed in
    let s = c.in_err-report.ensures.stopped before had in (
      memory_refused _ _ _ (λ old channel packet fault new fails. fails.0) _ _ _ _ _ s,
      elim (incomplete_or_some _ _ _ _ _ _ _ _ s (c.in_err-report.ensures.memory before had)) [
        | inl incomplete ↦ inl incomplete
        | inr some ↦ inr (omega (arith, some, packets_more (g.D.Followed.kind p) (g.D.Followed.within _ p before had).adds before c.args.frame.now))
      ],
    ))

pub returns-clause-taken : goal.returns-clause-taken
returns-clause-taken g c = λ start before t.
    let p = c.args.managed.now in
    let k = g.D.Followed.kind p in
    let had = t.0.processed in
    let laws = (g.D.Followed.within _ p before had).adds in
    let d = c.in_ok-report.ensures.delivers before had in
    let b = d.brings in (
      rw c.add.ensures (delivered_more k laws t.0 b.reported (c.in_ok-report.ensures.processed before had) (omega (arith, b.some))),
      stored_more k laws before c.args.frame.now c.args.self.now.delivered c.deliver.new.sink t.1 d.accepted,
    )
