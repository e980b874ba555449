use Rattle.std.proofs.Common.{◌-◌, ◌^◌, ◌<◌, ◌++◌, ◌∙◌, [], ap, append_assoc, arith, length-append}
use Rattle.std.specs.Prelude.{flat_map}
use Rattle.sl_engine.specs.Compare.Words.{word_counts}
use Rattle.sl_engine.specs.Link.Totals.{Counts}
use Rattle.sl_engine.specs.Verbs.Check.Lines.{anomalies_by, remainder_anomaly}
use Rattle.sl_engine.specs.Verbs.Listing.{lines_from}
use Rattle.sl_engine.proofs.lemmas.Compare.Summary.{rest_few, same_summary}
use Rattle.sl_engine.proofs.lemmas.Compare.Words.{rest_one}
use Rattle.sl_engine.proofs.lemmas.Kind.Delivery.{octets_counted}
use Rattle.sl_engine.proofs.lemmas.Verbs.Check.Lines.{all_counted, end_is}
use Rattle.sl_engine.proofs.compare.turns.Recording.summary.Goals as goal

pub add-remainders-requires : goal.add-remainders-requires
add-remainders-requires g c =
    let r = c.requires in
    let d = r.2.delivered in
    let offset = c.octets.result in
    let n = c.args.self.now.octets - offset in (
      lines_from (anomalies_by g.D.Checked.lines_of (g.D.Followed.found r.0)) [] r.1,
      remainder_anomaly 0 n,
      r.2.words,
      rest_one 0 (omega arith) n,
      omega (arith, d.few, rest_few 0 n, c.octets.ensures, octets_counted d, r.3),
    )

pub count_incomplete-incomplete-requires : goal.count_incomplete-incomplete-requires
count_incomplete-incomplete-requires g c =
    let r = c.requires in
    let d = r.2.delivered in
    let offset = c.octets.result in
    let n = c.args.self.now.octets - offset in
    let lines = lines_from (anomalies_by g.D.Checked.lines_of (g.D.Followed.found r.0)) [] r.1 in
    let more = remainder_anomaly 0 n in (
      r.0,
      r.1,
      lines ++ more,
      d.processed,
      c.add-remainders.ensures.counted lines more r.2.words (rest_one 0 (omega arith) n),
      omega (arith, d.few, rest_few 0 n, c.octets.ensures, octets_counted d, r.3, length-append lines more),
    )

pub with_remainder-requires-clause-few : goal.with_remainder-requires-clause-few
with_remainder-requires-clause-few g c =
    let r = c.requires in
    let d = r.2.delivered in
    let n = c.args.self.now.octets - c.octets.result in
    omega (
      arith,
      d.few,
      rest_few 0 n,
      c.add-remainders.ensures.number (remainder_anomaly 0 n) (rest_one 0 (omega arith) n),
      c.count_incomplete-incomplete.ensures.few r.0 r.1 d.processed,
      ap (λ (t : Counts). t.anomalies) d.counts,
      octets_counted d,
      c.octets.ensures,
      r.3,
    )

pub returns : goal.returns
returns g c = λ p frames s inside.
    let k = g.D.Followed.kind p in
    let d = s.delivered in
    let octets = c.args.self.now.octets in
    let offset = c.octets.result in
    let ends = c.octets.ensures ∙ octets_counted d in
    let small : octets < 2 ^ 64 = omega arith in
    let less : offset < 2 ^ 64 = omega arith in
    let lines = lines_from (anomalies_by g.D.Checked.lines_of (g.D.Followed.found p)) [] frames in
    let more = remainder_anomaly offset (octets - offset) in
    let one = rest_one offset less (octets - offset) in
    let left = flat_map (g.D.Checked.open_at p octets frames) k.channels in
    let words = c.count_incomplete-incomplete.ensures.words p octets frames (lines ++ more) small d.processed (c.add-remainders.ensures.counted lines more s.words one) in
    let all = append_assoc lines more left ∙ ap (λ l. lines ++ l) (end_is k (g.D.Checked.open_at p) frames offset octets ends inside) in
    same_summary
    (c.with_remainder.ensures ∙ all_counted k (g.D.Checked.open_at p) frames offset octets ends inside (anomalies_by g.D.Checked.lines_of (g.D.Followed.found p)) d (c.add-remainders.ensures.number more one)
    (c.count_incomplete-incomplete.ensures.number p octets frames small d.processed))
    (words ∙ ap word_counts all) s.signs
