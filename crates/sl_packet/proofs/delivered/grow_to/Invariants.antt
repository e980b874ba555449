use Rattle.std.proofs.Common.{◌+◌, ◌-◌, vec_len}
use Rattle.sl_packet.specs.KeptLists.{lists_in}
use Rattle.sl_packet.proofs.KeptLemmas.{HasReached}
use Rattle.sl_packet.proofs.delivered.grow_to.Given as goal

abbrev pub invariant-loop-alloc : goal.invariant-loop-alloc
invariant-loop-alloc l = HasReached (lists_in l.initial.lists) (lists_in l.lists) l.channel

abbrev pub decreases-loop-alloc : goal.decreases-loop-alloc
decreases-loop-alloc l = l.channel + 1 - vec_len l.lists
