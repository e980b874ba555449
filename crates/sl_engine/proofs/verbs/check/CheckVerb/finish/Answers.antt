use Rattle.std.proofs.Common.{◌≤◌, ◌-◌, ◌++◌, ◌∙◌, arith, length, refl, subst, sym}
use Rattle.std.specs.Prelude.{flat_map}
use Rattle.std.specs.List.{concat}
use Rattle.sl_engine.specs.Io.Output.{Adds}
use Rattle.sl_engine.specs.Verbs.Check.Lines.{anomalies_by, check_counts_in, remainder_anomaly, totals_line}
use Rattle.sl_engine.proofs.lemmas.Io.Streams.{adds_both, adds_lines, adds_none, stops_before, stops_first, stops_last, stops_then}
use Rattle.sl_engine.proofs.lemmas.Kind.Delivery.{octets_counted}
use Rattle.sl_engine.proofs.lemmas.Link.Answers.{passed_up}
use Rattle.sl_engine.proofs.lemmas.Verbs.Check.Lines.{all_counted, end_text}
use Rattle.sl_engine.proofs.verbs.check.CheckVerb.finish.Goals as goal

pub returns-in_err-make_room-clause-fault : goal.returns-in_err-make_room-clause-fault
returns-in_err-make_room-clause-fault g c =
    passed_up _ _ c.from_residual.ensures.1 (λ frames h. stops_before _ _ c.in_err-make_room.ensures.fault)

pub returns-in_err-incomplete-clause-fault : goal.returns-in_err-incomplete-clause-fault
returns-in_err-incomplete-clause-fault g c =
    let p = c.args._managed.now in
    let offset = c.octets-offset.result in
    passed_up _ _ c.from_residual-in_err-incomplete.ensures.1 (λ frames h.
    let inside : length (concat frames) ≤ c.args.octets = omega (arith, octets_counted h, octets_counted c.requires.1, c.requires.2) in
    rw (sym (end_text (g.D.Followed.kind p) (g.D.Checked.open_at p) frames offset c.args.octets (c.octets-offset.ensures ∙ octets_counted h) inside)) (stops_first c.args.out.now.lines
    (concat (remainder_anomaly offset (c.args.octets - offset)) ++ concat (flat_map (g.D.Checked.open_at p c.args.octets frames) (g.D.Followed.kind p).channels)) _
    (stops_then _ (adds_both c.in_ok-make_room.ensures.kept (adds_lines _ _ _ (concat (remainder_anomaly offset (c.args.octets - offset))) refl c.remainder_lines-remainders.ensures.text))
    (c.in_err-incomplete.ensures.fault p frames h.processed))))

pub returns-in_err-make_room-2-clause-fault : goal.returns-in_err-make_room-2-clause-fault
returns-in_err-make_room-2-clause-fault g c =
    let p = c.args._managed.now in
    let offset = c.octets-offset.result in
    passed_up _ _ c.from_residual-in_err-make_room-2.ensures.1 (λ frames h.
    let inside : length (concat frames) ≤ c.args.octets = omega (arith, octets_counted h, octets_counted c.requires.1, c.requires.2) in
    rw (sym (end_text (g.D.Followed.kind p) (g.D.Checked.open_at p) frames offset c.args.octets (c.octets-offset.ensures ∙ octets_counted h) inside)) (stops_first c.args.out.now.lines
    (concat (remainder_anomaly offset (c.args.octets - offset)) ++ concat (flat_map (g.D.Checked.open_at p c.args.octets frames) (g.D.Followed.kind p).channels)) _ (stops_last
    (adds_both (adds_both c.in_ok-make_room.ensures.kept (adds_lines _ _ _ (concat (remainder_anomaly offset (c.args.octets - offset))) refl c.remainder_lines-remainders.ensures.text))
    (c.in_ok-incomplete.ensures.lines p frames h.processed)) c.in_err-make_room-2.ensures.fault)))

pub returns-clause-counts : goal.returns-clause-counts
returns-clause-counts g c = λ frames h.
    let p = c.args._managed.now in
    let inside : length (concat frames) ≤ c.args.octets = omega (arith, octets_counted h, octets_counted c.requires.1, c.requires.2) in
    c.with_remainder-totals.ensures ∙ all_counted (g.D.Followed.kind p) (g.D.Checked.open_at p) frames c.octets-offset.result c.args.octets (c.octets-offset.ensures ∙ octets_counted h) inside (anomalies_by g.D.Checked.lines_of (g.D.Followed.found p)) h
    c.remainder_lines-remainders.ensures.number (c.in_ok-incomplete.ensures.number p frames h.processed)

pub returns-clause-lines : goal.returns-clause-lines
returns-clause-lines g c = λ frames h.
    let p = c.args._managed.now in
    let k = g.D.Followed.kind p in
    let offset = c.octets-offset.result in
    let inside : length (concat frames) ≤ c.args.octets = omega (arith, octets_counted h, octets_counted c.requires.1, c.requires.2) in
    let lines = adds_none (adds_both (adds_both c.in_ok-make_room.ensures.kept (adds_lines _ _ _ (concat (remainder_anomaly offset (c.args.octets - offset))) refl c.remainder_lines-remainders.ensures.text))
    (c.in_ok-incomplete.ensures.lines p frames h.processed)) c.in_ok-make_room-2.ensures.kept in
    subst (λ l. Adds g.W.Write.contents c.args.out.now (l ++ totals_line (check_counts_in k (anomalies_by g.D.Checked.lines_of (g.D.Followed.found p)) (g.D.Checked.open_at p) frames (c.args.octets - length (concat frames)))) (record c.make_room-2.new.self { lines = c.push_totals.new.lines }))
    (end_text k (g.D.Checked.open_at p) frames offset c.args.octets (c.octets-offset.ensures ∙ octets_counted h) inside)
    (subst (λ n. Adds g.W.Write.contents c.args.out.now ((concat (remainder_anomaly offset (c.args.octets - offset)) ++ concat (flat_map (g.D.Checked.open_at p c.args.octets frames) k.channels)) ++ totals_line n) (record c.make_room-2.new.self { lines = c.push_totals.new.lines }))
    (returns-clause-counts g c frames h) (adds_both lines (adds_lines _ _ _ (totals_line c.with_remainder-totals.result) refl c.push_totals.ensures)))
