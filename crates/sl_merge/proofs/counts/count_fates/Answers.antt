use Rattle.std.proofs.Common.{◌≡◌, ◌∙◌, ◌+◌, ◌<◌, ◌≤◌, false, true, ap, arith, map}
use Rattle.std.specs.List.{count_by}
use Rattle.sl_merge.specs.Counts.{fate_counts, left_out_first, repeats_of}
use Rattle.sl_merge.specs.Merge.{is_both, is_first_alone, left_out_of}
use Rattle.sl_merge.specs.Fates.{Fated, exchanged, taken_of}
use Rattle.sl_merge.specs.Told.{from_side, seen_of, seen_on, turn_if}
use Rattle.sl_merge.specs.declared.item.Seen.{Seen}
use Rattle.sl_merge.proofs.CountLemmas.{alone_seen, count-map, counted_more, counted_none, counts_are, left_out_seen, skipped_in}
use Rattle.sl_merge.proofs.MergeLemmas.{side_stays}
use Rattle.sl_merge.proofs.counts.count_fates.Goals as goal

pub loop-vc-init : goal.loop-vc-init
loop-vc-init c =
    let seen = c.in_ok-told.told.items.items in
    let a = c.count_skipped-first_left_out.ensures in
    let b = c.count_skipped-second_left_out.ensures in
    record {
      first = counted_none false seen c.count_skipped-first_left_out.result (a.skipped ∙ ap (skipped_in false) c.deref.ensures.value) a.repeats a.stretches;
      second = counted_none true seen c.count_skipped-second_left_out.result (b.skipped ∙ ap (skipped_in true) c.deref-2.ensures.value) b.repeats b.stretches;
    }

pub loop-vc-preserved : goal.loop-vc-preserved
loop-vc-preserved c =
    let seen = c.in_ok-told.told.items.items in
    let vc = c.loop-vc.vc in
    let below : vc < 8 = omega arith in
    let here : c.in_ok-channel.channel.items ≡ seen_on vc seen = c.in_ok-channel.ensures ∙ ap (seen_on vc) c.deref-in-loop-vc.ensures.value in
    let first = c.deref-in-loop-vc-2.ensures.value ∙ here in
    let second = c.deref-in-loop-vc-3.ensures.value ∙ here in
    let a = c.in_ok-first_left_out.ensures in
    let b = c.in_ok-second_left_out.ensures in
    record {
      first =
          counted_more false seen vc c.loop-vc.first_left_out c.in_ok-first_left_out.first_left_out below c.loop-vc.invariant.first a.skipped
          (a.repeats ∙ ap (λ l. c.loop-vc.first_left_out.repeats + repeats_of (from_side false l)) first)
          (a.stretches ∙ ap (λ l. c.loop-vc.first_left_out.stretches + left_out_of (from_side false l)) first);
      second =
          counted_more true seen vc c.loop-vc.second_left_out c.in_ok-second_left_out.second_left_out below c.loop-vc.invariant.second b.skipped
          (b.repeats ∙ ap (λ l. c.loop-vc.second_left_out.repeats + repeats_of (from_side true l)) second)
          (b.stretches ∙ ap (λ l. c.loop-vc.second_left_out.stretches + left_out_of (from_side true l)) second);
    }

pub returns : goal.returns
returns c =
    let seen = c.in_ok-told.told.items.items in
    let format = c.args.shape.now in
    let sc = c.args.spacecraft in
    let items = taken_of format.len c.args.one.now c.args.other.now c.args.fates.now in
    let past : 8 ≤ c.loop-vc.vc = omega arith in
    let is : seen ≡ map (seen_of format sc) items = c.in_ok-told.ensures.items in
    let both : c.count_both.result ≡ count_by (λ (item : Fated). is_both item.fate) items =
    c.count_both.ensures ∙ ap (count_by (λ (s : Seen). is_both s.item.fate)) (c.deref-3.ensures.value ∙ is)
    ∙ count-map (seen_of format sc) (λ (s : Seen). is_both s.item.fate) items in
    let first : c.count_alone.result ≡ count_by (λ (item : Fated). is_first_alone item.fate) items =
    c.count_alone.ensures ∙ ap (count_by (λ (s : Seen). is_first_alone (turn_if false s.item).fate)) c.deref-4.ensures.value
    ∙ alone_seen false format sc items seen is ∙ ap (count_by (λ (item : Fated). is_first_alone item.fate)) (side_stays items) in
    let second : c.count_alone-2.result ≡ count_by (λ (item : Fated). is_first_alone item.fate) (exchanged items) =
    c.count_alone-2.ensures ∙ ap (count_by (λ (s : Seen). is_first_alone (turn_if true s.item).fate)) c.deref-5.ensures.value
    ∙ alone_seen true format sc items seen is in
    counts_are c.count_both.result c.count_alone.result c.count_alone-2.result (fate_counts format sc items).both (fate_counts format sc items).first
    (fate_counts format sc items).second c.loop-vc.first_left_out c.loop-vc.second_left_out
    (left_out_first format sc items) (left_out_first format sc (exchanged items)) both first second
    (left_out_seen false format sc items seen is c.loop-vc.vc past c.loop-vc.first_left_out c.loop-vc.invariant.first
    ∙ ap (left_out_first format sc) (side_stays items))
    (left_out_seen true format sc items seen is c.loop-vc.vc past c.loop-vc.second_left_out c.loop-vc.invariant.second)
