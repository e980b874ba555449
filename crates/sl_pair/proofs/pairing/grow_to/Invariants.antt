use Rattle.std.proofs.Common.{◌+◌, ◌-◌, vec_len}
use Rattle.sl_pair.specs.Pairing.{AreChannels, ByChannel}
use Rattle.sl_pair.proofs.pairing.grow_to.Given as goal

abbrev pub invariant-loop-alloc : goal.invariant-loop-alloc
invariant-loop-alloc g l =
    (firsts seconds : ByChannel) → AreChannels l.initial.channels.items firsts seconds → AreChannels l.channels.items firsts seconds

abbrev pub decreases-loop-alloc : goal.decreases-loop-alloc
decreases-loop-alloc g l = l.channel + 1 - vec_len l.channels
