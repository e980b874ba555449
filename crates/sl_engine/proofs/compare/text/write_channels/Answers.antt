use Rattle.std.proofs.Common.{◌∙◌, arith, refl}
use Rattle.std.specs.Prelude.{⊤}
use Rattle.std.proofs.lemmas.Result.{MatchResult-weaker}
use Rattle.sl_engine.proofs.lemmas.Compare.Text.{listing_done, listing_next, listing_none, listing_stops, wrote_all}
use Rattle.sl_engine.proofs.lemmas.Io.Streams.{adds_none, memory_weaker, stops_last}
use Rattle.sl_engine.proofs.lemmas.Link.Answers.{both_ok, passed_up}
use Rattle.sl_engine.proofs.compare.text.write_channels.Goals as goal

pub loop-channel-init : goal.loop-channel-init
loop-channel-init g c = (λ firsts seconds s. listing_none, refl)

pub loop-channel-preserved : goal.loop-channel-preserved
loop-channel-preserved g c =
    let i = c.loop-channel.invariant in
    (λ firsts seconds s. listing_next (i.0 firsts seconds s) (omega (arith, c.loop-channel-test.true)) (c.in_ok-write_channel.ensures.lines firsts seconds s), c.in_ok-write_channel.ensures.lent ∙ i.1)

pub returns-in_err-write_channel-clause-fault : goal.returns-in_err-write_channel-clause-fault
returns-in_err-write_channel-clause-fault g c =
    passed_up _ _ c.from_residual.ensures.1 (λ firsts seconds s.
    rw c.requires at (listing_stops (c.loop-channel.invariant.0 firsts seconds s) (omega (arith, c.loop-channel-test.true)) (c.in_err-write_channel.ensures.fault firsts seconds s)))

pub returns-clause-written : goal.returns-clause-written
returns-clause-written g c =
    both_ok c.flush.result c.flush.ensures.kept c.flush.ensures.emptied (λ kept emptied firsts seconds s.
    wrote_all c.requires emptied (adds_none (listing_done (c.loop-channel.invariant.0 firsts seconds s) (omega (arith, c.loop-channel-test.false))) kept))

pub returns-clause-fault : goal.returns-clause-fault
returns-clause-fault g c =
    MatchResult-weaker c.flush.result c.flush.ensures.fault (λ _ u. u) (λ fault stops firsts seconds s.
    rw c.requires at (stops_last (listing_done (c.loop-channel.invariant.0 firsts seconds s) (omega (arith, c.loop-channel-test.false))) (memory_weaker {some = ⊤} (λ never. absurd never) stops)))
