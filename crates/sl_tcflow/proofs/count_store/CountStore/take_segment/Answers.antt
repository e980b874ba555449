use Rattle.std.proofs.Common.{◌≡◌, ◌≤◌, ◌<◌, ◌+◌, ◌∙◌, None, ℕ, List, Option, length, slice_index_or, set, inl, inr, refl, sym, ap, arith, subst}
use Rattle.std.specs.Vec.{vec_len}
use Rattle.std.proofs.lemmas.Bool.{cases_lt}
use Rattle.std.proofs.lemmas.List.{get_or_past, get_or_default}
use Rattle.sl_packet.specs.Delivered.{channel_count}
use Rattle.sl_tcflow.specs.CountStore.{CountsEach, count_at}
use Rattle.sl_tcflow.specs.Segment.{SegmentView}
use Rattle.sl_tcflow.specs.SeriesStore.{at}
use Rattle.sl_tcflow.specs.UnitCount.{CountsSeries}
use Rattle.sl_tcflow.specs.declared.unit_count.UnitCount.{UnitCount}
use Rattle.sl_tcflow.specs.declared.count_store.CountStore.TheInside.{Inside}
use Rattle.sl_tcflow.proofs.lemmas.Counter.{counted_set}
use Rattle.sl_tcflow.proofs.count_store.CountStore.take_segment.Goals as goal
use Rattle.sl_tcflow.proofs.count_store.CountStore.take_segment.Goals.{then-index-len+else-segment-ne-FIRST+in_ok-resize, else-index-len}

-- a list that is filled up with no counts has the same ones
same_grown : (counts grown : List (Option UnitCount)) (less size : ℕ) → length counts ≡ less → length grown ≡ size → less ≤ size
    → ((k : ℕ) (d : Option UnitCount) → k < size → k < less → slice_index_or grown k d ≡ slice_index_or counts k d)
    → ((k : ℕ) (d : Option UnitCount) → less ≤ k → k < size → slice_index_or grown k d ≡ None)
    → (other : ℕ) → count_at grown other ≡ count_at counts other
same_grown counts grown less size short long fit below above other =
    elim (cases_lt other less) [
      | inl inside ↦ below other None (omega (arith, inside, fit)) inside
      | inr past ↦
          elim (cases_lt other size) [
            | inl new ↦ above other None past new ∙ sym (get_or_past counts other None (omega (arith, past, short)))
            | inr outside ↦ get_or_past grown other None (omega (arith, outside, long)) ∙ sym (get_or_past counts other None (omega (arith, past, short)))
          ]
    ]

pub returns-clause-counts : goal.returns-clause-counts
returns-clause-counts c old new each placed =
    let list = c.if-index-len.self-inside.list.items in
    let (same, below) : ((other : ℕ) → count_at list other ≡ count_at c.args.self.now other) × (c.from-index.result < length list) =
    elim c.if-index-len.branch [
      | then-index-len+else-segment-ne-FIRST+in_ok-resize w ↦ (
        (λ other.
            ap (λ (i : Inside). count_at i.list.items other) w.self-inside-is
            ∙ same_grown c.self.inside.list.items w.resize.new.self.items (vec_len c.self.inside.list) (c.from-index.result + 1) (omega arith)
            (omega (arith, w.in_ok-resize.ensures.len)) (omega (arith, w.if-index-len.true, c.len.ensures))
            w.in_ok-resize.ensures.by_index.0 (λ k d. w.in_ok-resize.ensures.by_index.1 k d refl) other
            ∙ ap (λ counts. count_at counts other) c.self.view_is),
        omega (arith, ap (λ (i : Inside). length i.list.items) w.self-inside-is, w.in_ok-resize.ensures.len),
      )
      | else-index-len w ↦ (
        (λ other. ap (λ (i : Inside). count_at i.list.items other) w.self-inside-is ∙ ap (λ counts. count_at counts other) c.self.view_is),
        omega (arith, ap (λ (i : Inside). length i.list.items) w.self-inside-is, w.if-index-len.false, c.len.ensures),
      )
    ]
    in
    let channel : c.from-index.result ≡ c.args.segment.now.channel = c.from-index.ensures ∙ ap (λ (s : SegmentView). s.channel) c.segment.view_is in
    let series : c.index_mut.result.now ≡ count_at c.args.self.now c.args.segment.now.channel =
    c.index_mut.ensures.value ∙ get_or_default list c.from-index.result c.index_mut.result.now None below ∙ same c.from-index.result ∙ ap (count_at c.args.self.now) channel
    in
    let inside : c.args.segment.now.channel < channel_count = omega (arith, c.segment.invariant.channel, ap (λ (s : SegmentView). s.channel) c.segment.view_is) in
    let before = subst (CountsSeries (at old c.args.segment.now.channel)) (sym series) (each c.args.segment.now.channel inside) in
    subst (λ index. CountsEach new (set list index c.advance-2.new.series)) (sym channel)
    (counted_set c.args.self.now list c.args.segment.now.channel c.advance-2.new.series old new _ same (omega (arith, below, channel))
    (c.advance-2.ensures.series (at old c.args.segment.now.channel) before) each placed)
