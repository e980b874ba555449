use Rattle.std.proofs.Common.{◌≤◌, ◌<◌, length, sym, ◌∙◌, ap, subst, arith}
use Rattle.std.proofs.lemmas.List.{length-map}
use Rattle.std.specs.List.{AllByRecursion}
use Rattle.sl_packet.specs.Delivered.{IsDeliverable, channel_count}
use Rattle.sl_packet.specs.KeptLists.{lists_in, with_empty_lists}
use Rattle.sl_packet.proofs.PaddedLemmas.{padded_grown, padded_with_packet}
use Rattle.sl_packet.proofs.KeptLemmas.{packet_added, nothing_added, grown_due, with_packet_due}
use Rattle.sl_packet.proofs.StoppingLemmas.{on_err}
use Rattle.sl_packet.proofs.delivered.add_to_list.Goals as goal

pub returns-in_err-grow_to-clause-refused : goal.returns-in_err-grow_to-clause-refused
returns-in_err-grow_to-clause-refused c =
    on_err c.from_residual-in_err-grow_to.result _ (padded_grown (lists_in c.args.lists.now) (lists_in c.grow_to.new.lists) c.in_err-grow_to.ensures.grown)

pub returns-in_err-grow_to-clause-deliverable : goal.returns-in_err-grow_to-clause-deliverable
returns-in_err-grow_to-clause-deliverable c = λ all due. grown_due (lists_in c.args.lists.now) (lists_in c.grow_to.new.lists) c.in_err-grow_to.ensures.grown all

pub returns-in_err-push-clause-refused : goal.returns-in_err-push-clause-refused
returns-in_err-push-clause-refused c =
    let reached = c.in_ok-grow_to.ensures in
    let items = c.grow_to.new.lists.items in
    let inside : c.args.channel < length items = let r = reached.reached in omega arith in
    on_err c.from_residual-in_err-push.result _
    (ap with_empty_lists (nothing_added items c.args.channel c.index_mut.result.now c.push.new.self inside c.index_mut.ensures.value c.in_err-push.ensures.items)
    ∙ padded_grown (lists_in c.args.lists.now) (lists_in c.grow_to.new.lists) reached.grown)

pub returns-in_err-push-clause-deliverable : goal.returns-in_err-push-clause-deliverable
returns-in_err-push-clause-deliverable c = λ all due.
    let reached = c.in_ok-grow_to.ensures in
    let items = c.grow_to.new.lists.items in
    let inside : c.args.channel < length items = let r = reached.reached in omega arith in
    subst (AllByRecursion (AllByRecursion IsDeliverable))
    (sym (nothing_added items c.args.channel c.index_mut.result.now c.push.new.self inside c.index_mut.ensures.value c.in_err-push.ensures.items))
    (grown_due (lists_in c.args.lists.now) (lists_in c.grow_to.new.lists) reached.grown all)

pub returns-clause-added : goal.returns-clause-added
returns-clause-added c =
    let reached = c.in_ok-grow_to.ensures in
    let items = c.grow_to.new.lists.items in
    let inside : c.args.channel < length items = let r = reached.reached in omega arith in
    let fit : length (lists_in c.grow_to.new.lists) ≤ channel_count = let r = reached.no_further in omega arith in
    ap with_empty_lists (packet_added items c.args.channel c.index_mut.result.now c.push.new.self c.in_ok-packet.packet c.args.packet.now inside c.index_mut.ensures.value c.in_ok-push.ensures.items c.in_ok-packet.ensures.items)
    ∙ padded_with_packet (lists_in c.args.lists.now) (lists_in c.grow_to.new.lists) c.args.channel c.args.packet.now reached.grown (simp length-map inside) fit

pub returns-clause-deliverable : goal.returns-clause-deliverable
returns-clause-deliverable c = λ all due.
    let reached = c.in_ok-grow_to.ensures in
    let items = c.grow_to.new.lists.items in
    let inside : c.args.channel < length items = let r = reached.reached in omega arith in
    subst (AllByRecursion (AllByRecursion IsDeliverable))
    (sym (packet_added items c.args.channel c.index_mut.result.now c.push.new.self c.in_ok-packet.packet c.args.packet.now inside c.index_mut.ensures.value c.in_ok-push.ensures.items c.in_ok-packet.ensures.items))
    (with_packet_due (lists_in c.grow_to.new.lists) c.args.channel c.args.packet.now (grown_due (lists_in c.args.lists.now) (lists_in c.grow_to.new.lists) reached.grown all) due)
