use Rattle.std.proofs.Common.{◌≡◌, ◌<◌, ◌∙◌, arith, refl}
use Rattle.sl_engine.proofs.lemmas.Io.Streams.{adds_both, adds_lines}
use Rattle.sl_engine.proofs.lemmas.Link.Answers.{passed_up}
use Rattle.sl_engine.proofs.lemmas.Verbs.Check.Lines.{added_all, added_next, added_none, added_stops}
use Rattle.sl_engine.proofs.verbs.check.incomplete_lines.Goals as goal

pub loop-channel-init : goal.loop-channel-init
loop-channel-init g c = (λ p frames h. added_none (g.D.Followed.within _ p frames h).adds.all, (omega arith, refl))

pub loop-channel-preserved : goal.loop-channel-preserved
loop-channel-preserved g c =
    let i = c.loop-channel.invariant in (
      λ p frames h.
          let within : c.loop-channel.channel < (g.D.Followed.kind p).channel_limit =
          omega (arith, c.loop-channel-test.true, c.open_below-channel-end.ensures.most, c.open_below-channel-end.ensures.all p) in
          added_next (i.0 p frames h) within (adds_both c.in_ok-make_room.ensures.kept (adds_lines _ _ _ _ refl ((c.open_lines-number.ensures.added p frames h).text)))
          ((c.open_lines-number.ensures.added p frames h).number),
      (omega (arith, i.1.0, c.open_lines-number.ensures.few), c.in_ok-make_room.ensures.kept.lent ∙ i.1.1),
    )

pub returns-in_err-make_room-clause-fault : goal.returns-in_err-make_room-clause-fault
returns-in_err-make_room-clause-fault g c =
    passed_up _ _ c.from_residual.ensures.1 (λ p frames h. added_stops (c.loop-channel.invariant.0 p frames h) c.in_err-make_room.ensures.fault)

pub returns-clause-lines : goal.returns-clause-lines
returns-clause-lines g c = λ p frames h.
    let e = c.open_below-channel-end.ensures in
    let last : c.loop-channel.channel ≡ c.open_below-channel-end.result = omega (arith, c.loop-channel-test.false, c.loop-channel.auto.channel-end) in
    (added_all (c.loop-channel.invariant.0 p frames h) (omega (arith, last, e.most, e.all p))
    (λ other above below. e.none p c.args.offset frames h other (omega (arith, above, last)) (omega (arith, below, e.all p)))).0

pub returns-clause-number : goal.returns-clause-number
returns-clause-number g c = λ p frames h.
    let e = c.open_below-channel-end.ensures in
    let last : c.loop-channel.channel ≡ c.open_below-channel-end.result = omega (arith, c.loop-channel-test.false, c.loop-channel.auto.channel-end) in
    (added_all (c.loop-channel.invariant.0 p frames h) (omega (arith, last, e.most, e.all p))
    (λ other above below. e.none p c.args.offset frames h other (omega (arith, above, last)) (omega (arith, below, e.all p)))).1
