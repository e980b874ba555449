use Rattle.std.proofs.Common.{◌^◌, ◌<◌, ◌++◌, ◌∷◌, [], arith, length}
use Rattle.std.specs.List.{concat}
use Rattle.sl_engine.specs.Verbs.Check.Lines.{anomalies_by}
use Rattle.sl_engine.specs.Verbs.Listing.{lines_from}
use Rattle.sl_engine.proofs.lemmas.Compare.Summary.{frames_fit, lines_fit, words_next}
use Rattle.sl_engine.proofs.lemmas.Kind.Delivery.{anomalies_fit, checked_more, fits_more, octets_counted}
use Rattle.sl_engine.proofs.lemmas.Link.Answers.{passed_up}
use Rattle.sl_engine.proofs.lemmas.Verbs.Check.Lines.{anomalies_more}
use Rattle.sl_engine.proofs.compare.turns.Counting.deliver.Goals as goal

pub deliver-requires : goal.deliver-requires
deliver-requires g c = (c.requires.0, c.requires.1.delivered.processed, c.requires.2)

pub count_lines-anomalies-requires : goal.count_lines-anomalies-requires
count_lines-anomalies-requires g c =
    let d = c.requires.1 in
    (lines_from (anomalies_by g.D.Checked.lines_of (g.D.Followed.found c.args.managed.now)) [] c.requires.0, d.words, lines_fit d.delivered c.args.frame.now c.requires.3 (c.in_ok-report.ensures.delivers c.requires.0 d.delivered.processed).brings.some)

pub add-requires-clause-within : goal.add-requires-clause-within
add-requires-clause-within g c =
    let p = c.args.managed.now in
    let before = c.requires.0 in
    let d = c.requires.1.delivered in
    let within = g.D.Followed.within in
    fits_more (g.D.Followed.kind p) (within _ p before d.processed).adds d (c.in_ok-report.ensures.delivers before d.processed).brings.reported
    (within _ p (before ++ c.args.frame.now ∷ []) (c.in_ok-report.ensures.processed before d.processed))

pub add_anomalies-requires : goal.add_anomalies-requires
add_anomalies-requires g c =
    let p = c.args.managed.now in
    let before = c.requires.0 in
    let d = c.requires.1.delivered in
    let b = (c.in_ok-report.ensures.delivers before d.processed).brings in
    let few = c.count_lines-anomalies.ensures.few p before c.args.frame.now c.requires.2 b.some (c.in_ok-report.ensures.found before d.processed) in
    rw c.add.ensures (anomalies_fit (g.D.Followed.kind p) (g.D.Followed.within _ p before d.processed).adds d b.reported few)

pub take-requires : goal.take-requires
take-requires g c =
    let before = c.requires.0 in
    let d = c.requires.1 in
    (before, d.signs, c.in_ok-report.ensures.found before d.delivered.processed, c.requires.2, frames_fit d.delivered c.args.frame.now c.requires.3 (c.in_ok-report.ensures.delivers before d.delivered.processed).brings.some)

pub returns-in_err-report-clause-fault : goal.returns-in_err-report-clause-fault
returns-in_err-report-clause-fault g c =
    passed_up _ _ c.from_residual.ensures.1 (λ before had. (c.in_err-report.ensures.stopped before had, c.in_err-report.ensures.memory before had))

pub returns-clause-delivered : goal.returns-clause-delivered
returns-clause-delivered g c = λ before s.
    let p = c.args.managed.now in
    let frame = c.args.frame.now in
    let k = g.D.Followed.kind p in
    let d = s.delivered in
    let offset = length (concat before) in
    let laws = (g.D.Followed.within _ p before d.processed).adds in
    let delivers = c.in_ok-report.ensures.delivers before d.processed in
    let b = delivers.brings in
    let found = c.in_ok-report.ensures.found before d.processed in
    let e = c.count_lines-anomalies.ensures in
    let small : offset < 2 ^ 64 = omega (arith, octets_counted d, octets_counted c.requires.1.delivered, c.requires.3) in
    let few = e.few p before frame c.requires.2 b.some found in (
      record {
        delivered = rw (c.add_anomalies.ensures, c.add.ensures) (checked_more k laws d b.reported few (c.in_ok-report.ensures.processed before d.processed) (anomalies_more _ before frame _ (rw found at (e.number offset small))));
        words = words_next _ before frame (rw found at (e.words _ offset small s.words));
        signs = c.take.ensures before s.signs found;
      },
      delivers.accepted,
    )
