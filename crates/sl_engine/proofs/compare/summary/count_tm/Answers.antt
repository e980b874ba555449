use Rattle.std.proofs.Common.{◌≡◌, ◌+◌, ◌^◌, ◌<◌, ◌++◌, ◌∙◌, ap, arith, codes, length, length-append, nat_lt, None, Ok, Some, subst}
use Rattle.sl_engine.specs.Compare.Words.{IsOneLine, word_counts}
use Rattle.sl_engine.specs.Kind.FoundModel.{tm_finding}
use Rattle.sl_engine.specs.Kind.Tm.{TmFinding}
use Rattle.sl_engine.specs.Verbs.Check.Lines.{event_anomaly}
use Rattle.sl_engine.specs.Verbs.Check.Tm.{gap_anomaly, tm_anomaly_lines}
use Rattle.sl_engine.proofs.lemmas.Compare.Words.{behind_four, dropped_one, foreign_one, gap_one, one_at_most, opaque_one}
use Rattle.sl_engine.proofs.compare.summary.count_tm.Goals as goal

pub add-gaps-requires : goal.add-gaps-requires
add-gaps-requires c =
    let f = tm_finding c.found.inside in
    let small : 0 < 2 ^ 64 = omega arith in
    let lines = c.requires.0 in
    let l0 = (gap_anomaly 0 f f.gap) in
    let o0 : IsOneLine (codes "gap") l0 c.is_some.result = rw c.is_some.ensures (gap_one 0 small f f.gap) in
    (lines, l0, c.requires.1, o0, omega (arith, c.requires.2, one_at_most _ l0 _ o0))

pub add-drops-requires : goal.add-drops-requires
add-drops-requires c =
    let f = tm_finding c.found.inside in
    let small : 0 < 2 ^ 64 = omega arith in
    let lines = c.requires.0 in
    let l0 = (gap_anomaly 0 f f.gap) in
    let o0 : IsOneLine (codes "gap") l0 c.is_some.result = rw c.is_some.ensures (gap_one 0 small f f.gap) in
    let e0 = c.add-gaps.ensures.counted (lines) l0 c.requires.1 o0 in
    let l1 = (event_anomaly 0 f.vc None (codes " dropped") (nat_lt 0 f.dropped) (Some f.dropped)) in
    let o1 = (dropped_one 0 small f.vc None (Some f.dropped) (nat_lt 0 f.dropped)) in
    (lines ++ l0, l1, e0, o1, omega (arith, c.requires.2, length-append (lines) l0, one_at_most _ l0 _ o0, one_at_most _ l1 _ o1))

pub add-opaque-requires : goal.add-opaque-requires
add-opaque-requires c =
    let f = tm_finding c.found.inside in
    let small : 0 < 2 ^ 64 = omega arith in
    let lines = c.requires.0 in
    let l0 = (gap_anomaly 0 f f.gap) in
    let o0 : IsOneLine (codes "gap") l0 c.is_some.result = rw c.is_some.ensures (gap_one 0 small f f.gap) in
    let e0 = c.add-gaps.ensures.counted (lines) l0 c.requires.1 o0 in
    let l1 = (event_anomaly 0 f.vc None (codes " dropped") (nat_lt 0 f.dropped) (Some f.dropped)) in
    let o1 = (dropped_one 0 small f.vc None (Some f.dropped) (nat_lt 0 f.dropped)) in
    let e1 = c.add-drops.ensures.counted (lines ++ l0) l1 e0 o1 in
    let l2 = (event_anomaly 0 f.vc None (codes " opaque") f.opaque None) in
    let o2 = (opaque_one 0 small f.vc None None f.opaque) in
    ((lines ++ l0) ++ l1, l2, e1, o2, omega (arith, c.requires.2, length-append (lines) l0, one_at_most _ l0 _ o0, length-append (lines ++ l0) l1, one_at_most _ l1 _ o1, one_at_most _ l2 _ o2))

pub add-foreign-requires : goal.add-foreign-requires
add-foreign-requires c =
    let f = tm_finding c.found.inside in
    let small : 0 < 2 ^ 64 = omega arith in
    let lines = c.requires.0 in
    let l0 = (gap_anomaly 0 f f.gap) in
    let o0 : IsOneLine (codes "gap") l0 c.is_some.result = rw c.is_some.ensures (gap_one 0 small f f.gap) in
    let e0 = c.add-gaps.ensures.counted (lines) l0 c.requires.1 o0 in
    let l1 = (event_anomaly 0 f.vc None (codes " dropped") (nat_lt 0 f.dropped) (Some f.dropped)) in
    let o1 = (dropped_one 0 small f.vc None (Some f.dropped) (nat_lt 0 f.dropped)) in
    let e1 = c.add-drops.ensures.counted (lines ++ l0) l1 e0 o1 in
    let l2 = (event_anomaly 0 f.vc None (codes " opaque") f.opaque None) in
    let o2 = (opaque_one 0 small f.vc None None f.opaque) in
    let e2 = c.add-opaque.ensures.counted ((lines ++ l0) ++ l1) l2 e1 o2 in
    let l3 = (event_anomaly 0 f.vc None (codes " foreign") f.foreign None) in
    let o3 = (foreign_one 0 small f.vc None None f.foreign) in
    (((lines ++ l0) ++ l1) ++ l2, l3, e2, o3, omega (arith, c.requires.2, length-append (lines) l0, one_at_most _ l0 _ o0, length-append (lines ++ l0) l1, one_at_most _ l1 _ o1, length-append ((lines ++ l0) ++ l1) l2, one_at_most _ l2 _ o2, one_at_most _ l3 _ o3))

pub returns-clause-words : goal.returns-clause-words
returns-clause-words c = λ lines offset small is.
    let f = tm_finding c.found.inside in
    let l0 = (gap_anomaly offset f f.gap) in
    let o0 : IsOneLine (codes "gap") l0 c.is_some.result = rw c.is_some.ensures (gap_one offset small f f.gap) in
    let e0 = c.add-gaps.ensures.counted (lines) l0 is o0 in
    let l1 = (event_anomaly offset f.vc None (codes " dropped") (nat_lt 0 f.dropped) (Some f.dropped)) in
    let e1 = c.add-drops.ensures.counted (lines ++ l0) l1 e0 (dropped_one offset small f.vc None (Some f.dropped) (nat_lt 0 f.dropped)) in
    let l2 = (event_anomaly offset f.vc None (codes " opaque") f.opaque None) in
    let e2 = c.add-opaque.ensures.counted ((lines ++ l0) ++ l1) l2 e1 (opaque_one offset small f.vc None None f.opaque) in
    let l3 = (event_anomaly offset f.vc None (codes " foreign") f.foreign None) in
    let e3 = c.add-foreign.ensures.counted (((lines ++ l0) ++ l1) ++ l2) l3 e2 (foreign_one offset small f.vc None None f.foreign) in
    subst (λ (found : TmFinding). c.add-foreign.new.self ≡ word_counts (lines ++ tm_anomaly_lines offset (Ok found))) c.found.view_is
    (e3 ∙ ap word_counts (behind_four lines l0 l1 l2 l3))

pub returns-clause-number : goal.returns-clause-number
returns-clause-number c = λ offset small.
    let f = tm_finding c.found.inside in
    let l0 = (gap_anomaly offset f f.gap) in
    let o0 : IsOneLine (codes "gap") l0 c.is_some.result = rw c.is_some.ensures (gap_one offset small f f.gap) in
    let n0 = c.add-gaps.ensures.number l0 o0 in
    let l1 = (event_anomaly offset f.vc None (codes " dropped") (nat_lt 0 f.dropped) (Some f.dropped)) in
    let n1 = c.add-drops.ensures.number l1 (dropped_one offset small f.vc None (Some f.dropped) (nat_lt 0 f.dropped)) in
    let l2 = (event_anomaly offset f.vc None (codes " opaque") f.opaque None) in
    let n2 = c.add-opaque.ensures.number l2 (opaque_one offset small f.vc None None f.opaque) in
    let l3 = (event_anomaly offset f.vc None (codes " foreign") f.foreign None) in
    let n3 = c.add-foreign.ensures.number l3 (foreign_one offset small f.vc None None f.foreign) in
    let all : c.add-gaps.result + c.add-drops.result + c.add-opaque.result + c.add-foreign.result ≡ length (l0 ++ l1 ++ l2 ++ l3)
    = omega (arith, n0, n1, n2, n3, length-append l0 l1, length-append (l0 ++ l1) l2, length-append (l0 ++ l1 ++ l2) l3) in
    subst (λ (found : TmFinding). c.add-gaps.result + c.add-drops.result + c.add-opaque.result + c.add-foreign.result ≡ length (tm_anomaly_lines offset (Ok found))) c.found.view_is all
