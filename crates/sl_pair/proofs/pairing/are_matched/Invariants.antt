use Rattle.std.proofs.Common.{◌≡◌, ◌<◌, ℕ, []}
use Rattle.sl_pair.specs.OnlyIn.{only_in}
use Rattle.sl_pair.specs.Pairing.{AreChannels, ByChannel}
use Rattle.sl_pair.proofs.pairing.are_matched.Given as goal

abbrev pub invariant-loop-channel : goal.invariant-loop-channel
invariant-loop-channel g l =
    (firsts seconds : ByChannel) → AreChannels l.channels firsts seconds → (k : ℕ) → k < l.channel-index
    → (only_in (firsts k) (seconds k) ≡ []) × (only_in (seconds k) (firsts k) ≡ [])
