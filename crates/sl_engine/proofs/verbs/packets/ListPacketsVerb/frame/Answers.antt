use Rattle.std.proofs.Common.{arith, rules, ◌++◌, ◌∷◌, []}
use Rattle.sl_engine.proofs.lemmas.Kind.Delivery.{delivered_more, fits_more}
use Rattle.sl_engine.proofs.lemmas.Link.Answers.{passed_up}
use Rattle.sl_engine.proofs.lemmas.Verbs.Packets.Printer.{all_printed, lent_printing, stops_printing}
use Rattle.sl_engine.proofs.verbs.packets.ListPacketsVerb.frame.Goals as goal

pub add-requires-clause-within : goal.add-requires-clause-within
add-requires-clause-within g c =
    let p = c.args.managed.now in
    let before = c.requires.0 in
    let d = c.requires.1 in
    let within = g.D.Followed.within in
    fits_more (g.D.Followed.kind p) (within _ p before d.processed).adds d (c.in_ok-report.ensures.delivers before d.processed).brings.reported
    (within _ p (before ++ c.args.frame.now ∷ []) (c.in_ok-report.ensures.processed before d.processed))

pub returns-in_err-report-clause-lent : goal.returns-in_err-report-clause-lent
returns-in_err-report-clause-lent g c =
    let lent = lent_printing g.W.Write.contents _ _ c.deliver.new.sink _ _ _ (c.in_err-report.ensures.stopped c.requires.0 c.requires.1.processed) in
    passed_up _ _ c.from_residual.ensures.1 (search (rules, lent))

pub returns-in_err-report-clause-fault : goal.returns-in_err-report-clause-fault
returns-in_err-report-clause-fault g c =
    let e = c.in_err-report.ensures in
    passed_up _ _ c.from_residual.ensures.1 (λ before h.
    stops_printing g.W.Write.contents _ _ c.deliver.new.sink _ _ _ (search rules) (c.channel_name.ensures c.args.managed.now before c.args.frame.now) _ _ _ (e.stopped before h.processed) (e.memory before h.processed))

pub returns-clause-lines : goal.returns-clause-lines
returns-clause-lines g c = λ before h.
    all_printed g.W.Write.contents _ _ c.deliver.new.sink _ _ _ (search rules) (c.channel_name.ensures c.args.managed.now before c.args.frame.now)
    (c.in_ok-report.ensures.delivers before h.processed).accepted

pub returns-clause-has_listed : goal.returns-clause-has_listed
returns-clause-has_listed g c = λ before h.
    let p = c.args.managed.now in
    let b = (c.in_ok-report.ensures.delivers before h.processed).brings in
    rw c.add.ensures (delivered_more (g.D.Followed.kind p) (g.D.Followed.within _ p before h.processed).adds h b.reported (c.in_ok-report.ensures.processed before h.processed)
    (omega (arith, b.some)))
