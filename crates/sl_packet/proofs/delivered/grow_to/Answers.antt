use Rattle.std.proofs.Common.{◌≤◌, arith, length}
use Rattle.std.proofs.lemmas.List.{length-map}
use Rattle.sl_packet.specs.KeptLists.{lists_in}
use Rattle.sl_packet.proofs.KeptLemmas.{reached_more, none_added}
use Rattle.sl_packet.proofs.delivered.grow_to.Goals as goal

pub loop-alloc-preserved : goal.loop-alloc-preserved
loop-alloc-preserved c =
    let lists = c.loop-alloc.lists in
    let before : length (lists_in lists) ≤ c.args.channel = simp length-map (omega arith) in
    reached_more (lists_in c.args.lists.now) (lists_in lists) (lists_in c.push.new.self) c.args.channel c.loop-alloc.invariant
    (none_added lists.items c.push.new.self.items c.new.result c.in_ok-push.ensures.items c.new.ensures.items) before
