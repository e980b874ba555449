use Rattle.std.proofs.Common.{◌≡◌, ◌<◌, ◌^◌, ◌++◌, arith}
use Rattle.sl_engine.proofs.lemmas.Compare.Summary.{counted_all, counted_fits, counted_next, counted_none}
use Rattle.sl_engine.proofs.compare.turns.count_incomplete.Goals as goal

pub loop-channel-init : goal.loop-channel-init
loop-channel-init g c = (λ p offset frames lines small h is. counted_none (g.D.Followed.within _ p frames h).adds.all is, omega arith)

pub add-number-requires : goal.add-number-requires
add-number-requires g c =
    let r = c.requires in
    let small : 0 < 2 ^ 64 = omega arith in
    let h = c.loop-channel.invariant.0 r.0 0 r.1 r.2 small r.3 r.4 in
    let e = c.open_below-channel-end.ensures in
    let within : c.loop-channel.channel < (g.D.Followed.kind r.0).channel_limit = omega (arith, c.loop-channel-test.true, e.most, e.all r.0) in
    (r.2 ++ h.added, g.D.Checked.open_at r.0 0 r.1 c.loop-channel.channel, h.words, c.is_incomplete.ensures r.0 0 r.1 small r.3, counted_fits h within (e.few r.0 0 r.1) r.5)

pub loop-channel-preserved : goal.loop-channel-preserved
loop-channel-preserved g c =
    let e = c.open_below-channel-end.ensures in (
      λ p offset frames lines small had is.
          let h = c.loop-channel.invariant.0 p offset frames lines small had is in
          let within : c.loop-channel.channel < (g.D.Followed.kind p).channel_limit = omega (arith, c.loop-channel-test.true, e.most, e.all p) in
          let one = c.is_incomplete.ensures p offset frames small had in
          counted_next h within (c.add-number.ensures.counted (lines ++ h.added) _ h.words one) (c.add-number.ensures.number _ one),
      omega (arith, c.loop-channel.invariant.1, c.add-number.ensures.few),
    )

pub returns-clause-words : goal.returns-clause-words
returns-clause-words g c = λ p offset frames lines small had is.
    let e = c.open_below-channel-end.ensures in
    let last : c.loop-channel.channel ≡ c.open_below-channel-end.result = omega (arith, c.loop-channel-test.false, c.loop-channel.auto.channel-end) in
    (counted_all (c.loop-channel.invariant.0 p offset frames lines small had is) (omega (arith, last, e.most, e.all p))
    (λ other above below. e.none p offset frames had other (omega (arith, above, last)) (omega (arith, below, e.all p)))).0

pub returns-clause-number : goal.returns-clause-number
returns-clause-number g c = λ p offset frames small had.
    let r = c.requires in
    let e = c.open_below-channel-end.ensures in
    let last : c.loop-channel.channel ≡ c.open_below-channel-end.result = omega (arith, c.loop-channel-test.false, c.loop-channel.auto.channel-end) in
    (counted_all (c.loop-channel.invariant.0 p offset frames r.2 small had r.4) (omega (arith, last, e.most, e.all p))
    (λ other above below. e.none p offset frames had other (omega (arith, above, last)) (omega (arith, below, e.all p)))).1

pub returns-clause-few : goal.returns-clause-few
returns-clause-few g c = λ p frames had.
    let small : 0 < 2 ^ 64 = omega arith in
    omega (arith, returns-clause-number g c p 0 frames small had, c.open_below-channel-end.ensures.few p 0 frames)
