use Rattle.std.proofs.Common.{◌≡◌, ◌+◌, ◌^◌, ◌<◌, ◌++◌, ◌∙◌, ap, arith, codes, length, length-append, nat_lt, None, Ok, Some, sym, subst}
use Rattle.std.specs.Prelude.{is_some}
use Rattle.sl_engine.specs.Compare.Words.{IsOneLine, word_counts}
use Rattle.sl_engine.specs.Compare.Summarised.{discarded_lines}
use Rattle.sl_engine.specs.Kind.FoundModel.{tc_finding}
use Rattle.sl_engine.specs.Kind.Tc.{TcFinding}
use Rattle.sl_engine.specs.Verbs.Check.Lines.{event_anomaly}
use Rattle.sl_engine.specs.Verbs.Check.Tc.{tc_anomaly_lines}
use Rattle.sl_engine.proofs.lemmas.Compare.Words.{behind_five, dropped_one, long_one, one_at_most, one_discarded, stray_one, tail_one}
use Rattle.sl_engine.proofs.compare.summary.count_tc.Goals as goal

pub add-stray-requires : goal.add-stray-requires
add-stray-requires c =
    let f = tc_finding c.found.inside in
    let small : 0 < 2 ^ 64 = omega arith in
    let lines = c.requires.0 in
    let l0 = (discarded_lines 0 f) in
    let e0 = subst (λ (found : TcFinding). c.count_discarded-discarded.new.words ≡ word_counts (lines ++ discarded_lines 0 found)) (sym c.found.view_is) (c.count_discarded-discarded.ensures.words lines 0 small c.requires.1) in
    let l1 = (event_anomaly 0 f.vc (Some f.map) (codes " stray") f.stray None) in
    let o1 = (stray_one 0 small f.vc (Some f.map) None f.stray) in
    (lines ++ l0, l1, e0, o1, omega (arith, c.requires.2, length-append lines l0, one_discarded 0 small f, one_at_most _ l1 _ o1))

pub add-drops-requires : goal.add-drops-requires
add-drops-requires c =
    let f = tc_finding c.found.inside in
    let small : 0 < 2 ^ 64 = omega arith in
    let lines = c.requires.0 in
    let l0 = (discarded_lines 0 f) in
    let e0 = subst (λ (found : TcFinding). c.count_discarded-discarded.new.words ≡ word_counts (lines ++ discarded_lines 0 found)) (sym c.found.view_is) (c.count_discarded-discarded.ensures.words lines 0 small c.requires.1) in
    let l1 = (event_anomaly 0 f.vc (Some f.map) (codes " stray") f.stray None) in
    let o1 = (stray_one 0 small f.vc (Some f.map) None f.stray) in
    let e1 = c.add-stray.ensures.counted (lines ++ l0) l1 e0 o1 in
    let l2 = (event_anomaly 0 f.vc (Some f.map) (codes " dropped") (is_some f.dropped) f.dropped) in
    let o2 : IsOneLine (codes "dropped") l2 c.is_some.result = rw c.is_some.ensures (dropped_one 0 small f.vc (Some f.map) f.dropped (is_some f.dropped)) in
    ((lines ++ l0) ++ l1, l2, e1, o2, omega (arith, c.requires.2, length-append lines l0, one_discarded 0 small f, length-append (lines ++ l0) l1, one_at_most _ l1 _ o1, one_at_most _ l2 _ o2))

pub add-long-requires : goal.add-long-requires
add-long-requires c =
    let f = tc_finding c.found.inside in
    let small : 0 < 2 ^ 64 = omega arith in
    let lines = c.requires.0 in
    let l0 = (discarded_lines 0 f) in
    let e0 = subst (λ (found : TcFinding). c.count_discarded-discarded.new.words ≡ word_counts (lines ++ discarded_lines 0 found)) (sym c.found.view_is) (c.count_discarded-discarded.ensures.words lines 0 small c.requires.1) in
    let l1 = (event_anomaly 0 f.vc (Some f.map) (codes " stray") f.stray None) in
    let o1 = (stray_one 0 small f.vc (Some f.map) None f.stray) in
    let e1 = c.add-stray.ensures.counted (lines ++ l0) l1 e0 o1 in
    let l2 = (event_anomaly 0 f.vc (Some f.map) (codes " dropped") (is_some f.dropped) f.dropped) in
    let o2 : IsOneLine (codes "dropped") l2 c.is_some.result = rw c.is_some.ensures (dropped_one 0 small f.vc (Some f.map) f.dropped (is_some f.dropped)) in
    let e2 = c.add-drops.ensures.counted ((lines ++ l0) ++ l1) l2 e1 o2 in
    let l3 = (event_anomaly 0 f.vc (Some f.map) (codes " long") f.long None) in
    let o3 = (long_one 0 small f.vc (Some f.map) None f.long) in
    (((lines ++ l0) ++ l1) ++ l2, l3, e2, o3, omega (arith, c.requires.2, length-append lines l0, one_discarded 0 small f, length-append (lines ++ l0) l1, one_at_most _ l1 _ o1, length-append ((lines ++ l0) ++ l1) l2, one_at_most _ l2 _ o2, one_at_most _ l3 _ o3))

pub add-tails-requires : goal.add-tails-requires
add-tails-requires c =
    let f = tc_finding c.found.inside in
    let small : 0 < 2 ^ 64 = omega arith in
    let lines = c.requires.0 in
    let l0 = (discarded_lines 0 f) in
    let e0 = subst (λ (found : TcFinding). c.count_discarded-discarded.new.words ≡ word_counts (lines ++ discarded_lines 0 found)) (sym c.found.view_is) (c.count_discarded-discarded.ensures.words lines 0 small c.requires.1) in
    let l1 = (event_anomaly 0 f.vc (Some f.map) (codes " stray") f.stray None) in
    let o1 = (stray_one 0 small f.vc (Some f.map) None f.stray) in
    let e1 = c.add-stray.ensures.counted (lines ++ l0) l1 e0 o1 in
    let l2 = (event_anomaly 0 f.vc (Some f.map) (codes " dropped") (is_some f.dropped) f.dropped) in
    let o2 : IsOneLine (codes "dropped") l2 c.is_some.result = rw c.is_some.ensures (dropped_one 0 small f.vc (Some f.map) f.dropped (is_some f.dropped)) in
    let e2 = c.add-drops.ensures.counted ((lines ++ l0) ++ l1) l2 e1 o2 in
    let l3 = (event_anomaly 0 f.vc (Some f.map) (codes " long") f.long None) in
    let o3 = (long_one 0 small f.vc (Some f.map) None f.long) in
    let e3 = c.add-long.ensures.counted (((lines ++ l0) ++ l1) ++ l2) l3 e2 o3 in
    let l4 = (event_anomaly 0 f.vc (Some f.map) (codes " tail") (nat_lt 0 f.tail) (Some f.tail)) in
    let o4 = (tail_one 0 small f.vc (Some f.map) (Some f.tail) (nat_lt 0 f.tail)) in
    ((((lines ++ l0) ++ l1) ++ l2) ++ l3, l4, e3, o4, omega (arith, c.requires.2, length-append lines l0, one_discarded 0 small f, length-append (lines ++ l0) l1, one_at_most _ l1 _ o1, length-append ((lines ++ l0) ++ l1) l2, one_at_most _ l2 _ o2, length-append (((lines ++ l0) ++ l1) ++ l2) l3, one_at_most _ l3 _ o3, one_at_most _ l4 _ o4))

pub returns-clause-words : goal.returns-clause-words
returns-clause-words c = λ lines offset small is.
    let f = tc_finding c.found.inside in
    let l0 = (discarded_lines offset f) in
    let e0 = subst (λ (found : TcFinding). c.count_discarded-discarded.new.words ≡ word_counts (lines ++ discarded_lines offset found)) (sym c.found.view_is) (c.count_discarded-discarded.ensures.words lines offset small is) in
    let l1 = (event_anomaly offset f.vc (Some f.map) (codes " stray") f.stray None) in
    let e1 = c.add-stray.ensures.counted (lines ++ l0) l1 e0 (stray_one offset small f.vc (Some f.map) None f.stray) in
    let l2 = (event_anomaly offset f.vc (Some f.map) (codes " dropped") (is_some f.dropped) f.dropped) in
    let o2 : IsOneLine (codes "dropped") l2 c.is_some.result = rw c.is_some.ensures (dropped_one offset small f.vc (Some f.map) f.dropped (is_some f.dropped)) in
    let e2 = c.add-drops.ensures.counted ((lines ++ l0) ++ l1) l2 e1 o2 in
    let l3 = (event_anomaly offset f.vc (Some f.map) (codes " long") f.long None) in
    let e3 = c.add-long.ensures.counted (((lines ++ l0) ++ l1) ++ l2) l3 e2 (long_one offset small f.vc (Some f.map) None f.long) in
    let l4 = (event_anomaly offset f.vc (Some f.map) (codes " tail") (nat_lt 0 f.tail) (Some f.tail)) in
    let e4 = c.add-tails.ensures.counted ((((lines ++ l0) ++ l1) ++ l2) ++ l3) l4 e3 (tail_one offset small f.vc (Some f.map) (Some f.tail) (nat_lt 0 f.tail)) in
    subst (λ (found : TcFinding). c.add-tails.new.self ≡ word_counts (lines ++ tc_anomaly_lines offset (Ok found))) c.found.view_is
    (e4 ∙ ap word_counts (behind_five lines l0 l1 l2 l3 l4))

pub returns-clause-number : goal.returns-clause-number
returns-clause-number c = λ offset small.
    let f = tc_finding c.found.inside in
    let l0 = (discarded_lines offset f) in
    let n0 = subst (λ (found : TcFinding). c.count_discarded-discarded.result ≡ length (discarded_lines offset found)) (sym c.found.view_is) (c.count_discarded-discarded.ensures.number offset small) in
    let l1 = (event_anomaly offset f.vc (Some f.map) (codes " stray") f.stray None) in
    let n1 = c.add-stray.ensures.number l1 (stray_one offset small f.vc (Some f.map) None f.stray) in
    let l2 = (event_anomaly offset f.vc (Some f.map) (codes " dropped") (is_some f.dropped) f.dropped) in
    let o2 : IsOneLine (codes "dropped") l2 c.is_some.result = rw c.is_some.ensures (dropped_one offset small f.vc (Some f.map) f.dropped (is_some f.dropped)) in
    let n2 = c.add-drops.ensures.number l2 o2 in
    let l3 = (event_anomaly offset f.vc (Some f.map) (codes " long") f.long None) in
    let n3 = c.add-long.ensures.number l3 (long_one offset small f.vc (Some f.map) None f.long) in
    let l4 = (event_anomaly offset f.vc (Some f.map) (codes " tail") (nat_lt 0 f.tail) (Some f.tail)) in
    let n4 = c.add-tails.ensures.number l4 (tail_one offset small f.vc (Some f.map) (Some f.tail) (nat_lt 0 f.tail)) in
    let all : c.count_discarded-discarded.result + c.add-stray.result + c.add-drops.result + c.add-long.result + c.add-tails.result ≡ length (l0 ++ l1 ++ l2 ++ l3 ++ l4)
    = omega (arith, n0, n1, n2, n3, n4, length-append l0 l1, length-append (l0 ++ l1) l2, length-append (l0 ++ l1 ++ l2) l3, length-append (l0 ++ l1 ++ l2 ++ l3) l4) in
    subst (λ (found : TcFinding). c.count_discarded-discarded.result + c.add-stray.result + c.add-drops.result + c.add-long.result + c.add-tails.result ≡ length (tc_anomaly_lines offset (Ok found))) c.found.view_is all
