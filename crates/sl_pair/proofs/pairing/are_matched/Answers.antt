use Rattle.std.proofs.Common.{length, arith, below_more, inl, inr, refl}
use Rattle.std.proofs.lemmas.Bool.{cases_lt}
use Rattle.sl_pair.proofs.PairingLemmas.{channel_here, none_left, not_told, past_channels}
use Rattle.sl_pair.proofs.pairing.are_matched.Goals as goal

pub loop-channel-preserved : goal.loop-channel-preserved
loop-channel-preserved g c = λ firsts seconds are.
    let cs = c.args.channels.now in
    let i = c.loop-channel.channel-index in
    below_more _ _ (c.loop-channel.invariant firsts seconds are)
    ((c.is_matched.ensures (firsts i) (seconds i) (channel_here cs i c.channel-item.result firsts seconds (omega arith) c.channel-item.is are)).0
    c.if-not-is_matched.false)

pub returns-then-not-is_matched : goal.returns-then-not-is_matched
returns-then-not-is_matched g c = λ firsts seconds are.
    let cs = c.args.channels.now in
    let i = c.loop-channel.channel-index in
    let here = channel_here cs i c.channel-item.result firsts seconds (omega arith) c.channel-item.is are in (
      (λ it. let none : ⊥ = cc in absurd none),
      (λ all. absurd (not_told c.is_matched.result c.if-not-is_matched.true (c.is_matched.ensures (firsts i) (seconds i) here) (all i))),
    )

pub returns : goal.returns
returns g c = λ firsts seconds are. (
  (λ all channel. elim (cases_lt channel (length c.args.channels.now)) [
    | inl below ↦ c.loop-channel.invariant firsts seconds are channel (omega arith)
    | inr past ↦ none_left (firsts channel) (seconds channel) (past_channels c.args.channels.now channel (firsts channel) (seconds channel) past (are channel))
  ]),
  (λ none. refl),
)
