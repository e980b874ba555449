use Rattle.std.proofs.Common.{sym, subst}
use Rattle.sl_pair.specs.Pairing.{AreChannels}
use Rattle.sl_pair.proofs.PairingLemmas.{channel_added}
use Rattle.sl_pair.proofs.pairing.grow_to.Goals as goal

pub loop-alloc-preserved : goal.loop-alloc-preserved
loop-alloc-preserved g c = λ firsts seconds are.
    subst (λ l. AreChannels l firsts seconds) (sym c.in_ok-push.ensures.items) (λ channel.
    channel_added c.loop-alloc.channels.items c.new.result c.new.ensures channel (firsts channel) (seconds channel)
    (c.loop-alloc.invariant firsts seconds are channel))
