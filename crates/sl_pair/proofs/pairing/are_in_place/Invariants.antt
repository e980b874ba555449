use Rattle.std.proofs.Common.{◌<◌, ℕ}
use Rattle.sl_pair.specs.Pairing.{AreChannels, ByChannel}
use Rattle.sl_pair.specs.Placed.{AreInPlace}
use Rattle.sl_pair.proofs.pairing.are_in_place.Given as goal

abbrev pub invariant-loop-channel : goal.invariant-loop-channel
invariant-loop-channel g l =
    (firsts seconds : ByChannel) → AreChannels l.channels firsts seconds → (k : ℕ) → k < l.channel-index
    → AreInPlace (firsts k) (seconds k)
