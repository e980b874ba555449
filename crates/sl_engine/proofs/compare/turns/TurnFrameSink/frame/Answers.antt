use Rattle.std.proofs.Common.{arith, inl, inr}
use Rattle.sl_engine.proofs.lemmas.Compare.Turns.{turn_goes_on}
use Rattle.sl_engine.proofs.lemmas.Kind.Delivery.{packets_more}
use Rattle.sl_engine.proofs.lemmas.Link.Answers.{passed_up}
use Rattle.sl_engine.proofs.lemmas.Link.Fault.{memory_refused, incomplete_or_some}
use Rattle.sl_engine.proofs.compare.turns.TurnFrameSink.frame.Goals as goal

pub deliver-requires : goal.deliver-requires
deliver-requires g c =
    let t = c.requires in
    (t.before, t.taken.2.delivered, t.whole, t.fits)

pub returns-in_err-deliver-clause-fault : goal.returns-in_err-deliver-clause-fault
returns-in_err-deliver-clause-fault g c =
    passed_up _ _ c.from_residual.ensures.1 (λ start before t.
    let p = c.args.managed.now in
    let had = t.2.delivered.delivered.processed in
    let s = c.in_err-deliver.ensures.fault before had in (
      t.0,
      (
        memory_refused _ _ _ (λ old channel packet fault new fails. fails) _ _ _ _ _ s.0,
        elim (incomplete_or_some _ _ _ _ _ _ _ _ s.0 s.1) [
          | inl incomplete ↦ inl incomplete
          | inr some ↦ inr (omega (arith, some, packets_more (g.D.Followed.kind p) (g.D.Followed.within _ p before had).adds before c.args.frame.now))
        ],
      ),
    ))

pub returns-clause-taken : goal.returns-clause-taken
returns-clause-taken g c = λ start before t.
    let p = c.args.managed.now in
    let d = c.in_ok-deliver.ensures.delivered before t.2.delivered in
    (t.0, t.1, turn_goes_on before c.args.frame.now (g.D.Followed.within _ p before t.2.delivered.delivered.processed).adds t.2 d.0 d.1)
