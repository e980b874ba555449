use Rattle.std.proofs.Common.{◌∙◌, ◌++◌, [], None, Some, append-nil, ap, refl, sym, subst}
use Rattle.std.specs.Prelude.{bytes_eq}
use Rattle.std.specs.HashMap.{get_by, UpdatesBy}
use Rattle.std.proofs.lemmas.Result.{on_ok_weaker}
use Rattle.sl_pair.specs.Queue.{queued}
use Rattle.sl_pair.proofs.QueueLemmas.{none_queued-added, same_either, waiting-added}
use Rattle.sl_pair.proofs.waiting.Waiting.add.Goals as goal

pub returns-in_default : goal.returns-in_default
returns-in_default g c = λ q.
    let p = c.args.packet.now in
    let m = c.args.self.now.newest in
    let e = queued c.args.self.now.earlier q in
    let same = c.requires.same in
    let updates = subst (λ k. UpdatesBy bytes_eq (bytes_eq k) m c.insert.new.self (Some c.args.place)) same c.in_ok-before.ensures.updates in
    let was = sym c.in_default.is ∙ c.in_ok-before.ensures.old ∙ ap (λ k. get_by (bytes_eq k) m) same in
    waiting-added p m c.insert.new.self c.args.place None updates was q e e
    (sym (ap (λ l. e ++ l) (same_either (bytes_eq q p) []) ∙ append-nil e))

pub returns : goal.returns
returns g c =
    on_ok_weaker c.push_place.result (λ pushed q.
    let p = c.args.packet.now in
    let m = c.args.self.now.newest in
    let e = queued c.args.self.now.earlier q in
    let same = c.requires.same in
    let updates = subst (λ k. UpdatesBy bytes_eq (bytes_eq k) m c.insert.new.self (Some c.args.place)) same c.in_ok-before.ensures.updates in
    let was = sym c.in-Some.is ∙ c.in_ok-before.ensures.old ∙ ap (λ k. get_by (bytes_eq k) m) same in
    waiting-added p m c.insert.new.self c.args.place (Some c.in-Some.before) updates was q e (queued c.push_place.new.queues q)
    (pushed q)) c.push_place.ensures.pushed

pub invariant_of-self-in_default : goal.invariant_of-self-in_default
invariant_of-self-in_default g c =
    let e = queued c.args.self.now.earlier in
    record {
      earlier_have_newest =
          none_queued-added c.args.octets c.args.self.now.newest c.insert.new.self e e c.args.self.now.earlier_have_newest
          c.args.place c.in_ok-before.ensures.updates (λ q other. refl);
    }

pub invariant_of-self-2 : goal.invariant_of-self-2
invariant_of-self-2 g c =
    record {
      earlier_have_newest =
          none_queued-added c.args.octets c.args.self.now.newest c.insert.new.self
          (queued c.args.self.now.earlier) (queued c.push_place.new.queues) c.args.self.now.earlier_have_newest
          c.args.place c.in_ok-before.ensures.updates
          (λ q other. c.push_place.ensures.others_stay q (ap (bytes_eq q) (sym c.requires.same) ∙ other));
    }
