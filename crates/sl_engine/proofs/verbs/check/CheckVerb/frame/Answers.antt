use Rattle.std.proofs.Common.{◌++◌, ◌∷◌, ◌∙◌, ◌<◌, [], length, refl}
use Rattle.sl_engine.proofs.lemmas.Io.Streams.{adds_both, adds_lines, stops_at_memory, stops_before, stops_then}
use Rattle.sl_engine.proofs.lemmas.Kind.Delivery.{anomalies_fit, checked_more, fits_more, octets_counted}
use Rattle.sl_engine.proofs.lemmas.Link.Answers.{passed_up}
use Rattle.sl_engine.proofs.lemmas.Verbs.Check.Lines.{anomalies_more}
use Rattle.sl_engine.proofs.verbs.check.CheckVerb.frame.Goals as goal

pub add-requires-clause-within : goal.add-requires-clause-within
add-requires-clause-within g c =
    let p = c.args.managed.now in
    let before = c.requires.0 in
    let d = c.requires.1 in
    let within = g.D.Followed.within in
    fits_more (g.D.Followed.kind p) (within _ p before d.processed).adds d (c.in_ok-report.ensures.brings before d.processed).reported
    (within _ p (before ++ c.args.frame.now ∷ []) (c.in_ok-report.ensures.processed before d.processed))

pub add_anomalies-requires : goal.add_anomalies-requires
add_anomalies-requires g c =
    let p = c.args.managed.now in
    let before = c.requires.0 in
    let h = c.requires.1 in
    let e = c.anomaly_lines-anomalies.ensures in
    let b = c.in_ok-report.ensures.brings before h.processed in
    let few : c.anomaly_lines-anomalies.result < length c.args.frame.now = rw (e.number, c.in_ok-report.ensures.found before h.processed) (e.few p before c.args.frame.now c.requires.2 b.some) in
    rw c.add.ensures (anomalies_fit (g.D.Followed.kind p) (g.D.Followed.within _ p before h.processed).adds h b.reported few)

pub returns-in_err-make_room-clause-fault : goal.returns-in_err-make_room-clause-fault
returns-in_err-make_room-clause-fault g c =
    passed_up _ _ c.from_residual.ensures.1 (λ before h. stops_before _ _ c.in_err-make_room.ensures.fault)

pub returns-in_err-report-clause-fault : goal.returns-in_err-report-clause-fault
returns-in_err-report-clause-fault g c =
    passed_up _ _ c.from_residual-in_err-report.ensures.1 (λ before h.
    let m = c.in_err-report.ensures.memory before h.processed in
    rw m.0 (stops_then _ c.in_ok-make_room.ensures.kept (stops_at_memory _ _ _ m.1)))

pub returns-clause-lines : goal.returns-clause-lines
returns-clause-lines g c = λ before h.
    adds_both c.in_ok-make_room.ensures.kept (adds_lines _ _ _ _ refl (rw (c.octets.ensures ∙ octets_counted h, c.in_ok-report.ensures.found before h.processed) at c.anomaly_lines-anomalies.ensures.text))

pub returns-clause-has_listed : goal.returns-clause-has_listed
returns-clause-has_listed g c = λ before h.
    let p = c.args.managed.now in
    let frame = c.args.frame.now in
    let e = c.anomaly_lines-anomalies.ensures in
    let b = c.in_ok-report.ensures.brings before h.processed in
    let found = c.in_ok-report.ensures.found before h.processed in
    let few : c.anomaly_lines-anomalies.result < length frame = rw (e.number, found) (e.few p before frame c.requires.2 b.some) in
    rw (c.add_anomalies.ensures, c.add.ensures) (checked_more (g.D.Followed.kind p) (g.D.Followed.within _ p before h.processed).adds h b.reported few (c.in_ok-report.ensures.processed before h.processed)
    (anomalies_more _ before frame _ (rw (c.octets.ensures ∙ octets_counted h, found) at e.number)))
