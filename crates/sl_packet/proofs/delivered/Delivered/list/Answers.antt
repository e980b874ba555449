use Rattle.std.proofs.Common.{[], arith}
use Rattle.std.proofs.lemmas.List.{get_or_past}
use Rattle.sl_packet.specs.KeptLists.{with_empty_lists}
use Rattle.sl_packet.proofs.PaddedLemmas.{length-with_empty_lists}
use Rattle.sl_packet.proofs.KeptLemmas.{kept_at, none_kept_at, due_at, all_due}
use Rattle.sl_packet.proofs.delivered.Delivered.list.Goals as goal

pub returns-in-Some-clause-packets : goal.returns-in-Some-clause-packets
returns-in-Some-clause-packets c =
    let found = c.in-Some.ensures.lookup in
    rw (c.as_slice.ensures.value, ← c.self.view_is, ← c.from.ensures)
    (kept_at c.deref.result.now c.self.inside.lists.items c.from.result c.in-Some.list.now c.deref.ensures.value c.self.invariant.fit found.3.0 found.1)

pub returns-in-Some-clause-deliverable : goal.returns-in-Some-clause-deliverable
returns-in-Some-clause-deliverable c = rw (← c.self.view_is) (due_at _ c.args.channel c.self.invariant.fit c.self.invariant.deliverable)

pub returns-in-None-clause-packets : goal.returns-in-None-clause-packets
returns-in-None-clause-packets c =
    rw (← c.self.view_is, ← c.from.ensures)
    (none_kept_at c.deref.result.now c.self.inside.lists.items c.from.result c.deref.ensures.value c.self.invariant.fit c.in-None.ensures.lookup.3)

pub returns-in-None-clause-deliverable : goal.returns-in-None-clause-deliverable
returns-in-None-clause-deliverable c = rw (← c.self.view_is) (due_at _ c.args.channel c.self.invariant.fit c.self.invariant.deliverable)

pub returns-in-Some-clause-channels : goal.returns-in-Some-clause-channels
returns-in-Some-clause-channels c = rw (← c.self.view_is) (length-with_empty_lists _)

pub returns-in-None-clause-none_above : goal.returns-in-None-clause-none_above
returns-in-None-clause-none_above c above = rw (← c.self.view_is) (get_or_past (with_empty_lists _) c.args.channel [] (omega (arith, length-with_empty_lists, above)))

pub returns-in-None-clause-channels : goal.returns-in-None-clause-channels
returns-in-None-clause-channels c = rw (← c.self.view_is) (length-with_empty_lists _)

pub returns-in-Some-clause-each_deliverable : goal.returns-in-Some-clause-each_deliverable
returns-in-Some-clause-each_deliverable c = rw (← c.self.view_is) (all_due _ c.self.invariant.deliverable)

pub returns-in-None-clause-each_deliverable : goal.returns-in-None-clause-each_deliverable
returns-in-None-clause-each_deliverable c = rw (← c.self.view_is) (all_due _ c.self.invariant.deliverable)
