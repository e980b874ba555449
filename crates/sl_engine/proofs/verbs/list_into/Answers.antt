use Rattle.std.proofs.Common.{sym}
use Rattle.std.proofs.lemmas.Result.{err_from_is_err_and}
use Rattle.sl_engine.proofs.lemmas.Verbs.Lister.{stops_frames, stops_finish, stops_flush, lists_all}
use Rattle.sl_engine.proofs.verbs.list_into.Goals as goal

pub returns-in_err-octets : goal.returns-in_err-octets
returns-in_err-octets g c =
    let out = err_from_is_err_and c.from_residual.result c.from_residual.ensures.1 in
    rw (out.1, out.2) (stops_frames _ _ (g.V.Verb.listing c.args.managed.now) _ _ _ _ _ _ _ _ c.requires.empty _ _ _
    (λ frames t. rw (← c.out-1.given.1 (sym t.1)) at t.3)
    (λ frames t. (rw (← c.out-1.given.1 (sym t.0)) at t.1, rw (← c.out-1.given.1 (sym t.0)) at t.2)) c.in_err-octets.ensures.fault)

pub returns-in_err-totals : goal.returns-in_err-totals
returns-in_err-totals g c =
    let s = c.in_ok-octets.ensures.all in
    let listed = rw (← c.verb-1.given.1 (sym s.all.0)) at s.all.2 in
    let added = rw (← c.out-1.given.1 (sym s.all.1)) at s.all.3 in
    let out = err_from_is_err_and c.from_residual-in_err-totals.result c.from_residual-in_err-totals.ensures.1 in
    rw (out.1, out.2) (stops_finish _ _ (g.V.Verb.listing c.args.managed.now) _ _ _ _ _ _ _ c.finish.new.out c.requires.empty _ _ s _ added _ c.in_err-totals.ensures.lent (c.in_err-totals.ensures.fault _ listed))

pub returns-in_err-flush : goal.returns-in_err-flush
returns-in_err-flush g c =
    let s = c.in_ok-octets.ensures.all in
    let listed = rw (← c.verb-1.given.1 (sym s.all.0)) at s.all.2 in
    let added = rw (← c.out-1.given.1 (sym s.all.1)) at s.all.3 in
    let out = err_from_is_err_and c.from_residual-in_err-flush.result c.from_residual-in_err-flush.ensures.1 in
    rw (out.1, out.2) (stops_flush _ _ (g.V.Verb.listing c.args.managed.now) _ _ _ _ _ _ _ c.flush.new.self c.requires.empty _ _ s _ added _ (c.in_ok-totals.ensures.lines _ listed) _ c.in_err-flush.ensures.lent c.in_err-flush.ensures.fault)

pub returns : goal.returns
returns g c =
    let s = c.in_ok-octets.ensures.all in
    let listed = rw (← c.verb-1.given.1 (sym s.all.0)) at s.all.2 in
    let added = rw (← c.out-1.given.1 (sym s.all.1)) at s.all.3 in
    lists_all _ _ (g.V.Verb.listing c.args.managed.now) _ _ _ _ _ _ _ _ c.requires.empty _ _ s _ added _ (c.in_ok-totals.ensures.lines _ listed) _ c.in_ok-flush.ensures.kept c.in_ok-flush.ensures.emptied (c.in_ok-totals.ensures.counts _ listed)
