use Rattle.std.proofs.Common.{◌≡◌, ◌∙◌, ◌-◌, ◌<◌, false, true, ap, arith, sym, refl}
use Rattle.std.specs.List.{list_all, range_with_len}
use Rattle.sl_tmflow.specs.Recording.{virtual_channels}
use Rattle.sl_merge.specs.Merge.{is_merge, is_merge_on}
use Rattle.sl_merge.specs.Told.{seen_on}
use Rattle.sl_merge.proofs.MergeLemmas.{answer, answer_by, channels_more, channels_not, sees_merge, sees_read}
use Rattle.sl_merge.proofs.RecordedLemmas.{recorded_stay}
use Rattle.sl_merge.proofs.WithinLemmas.{packets_stay}
use Rattle.sl_merge.proofs.merge.is_merge_tm.Goals as goal

pub returns-then-not-told : goal.returns-then-not-told
returns-then-not-told g c =
    let seen = c.in_ok-told.told.items.items in
    let fails : c.in_ok-told.told.fits ≡ false = c.if-not-told.true in
    let format = c.args.shape.now in
    record {
      exactly = sym (answer format c.args.spacecraft c.args.one.now c.args.other.now c.args.fates.now seen false c.in_ok-told.ensures.items
          (sym fails ∙ c.in_ok-told.ensures.fits));
      packets = λ holds vc below. absurd (cc);
      recorded = λ holds vc below. absurd (cc);
    }

pub returns-then-not-are_read : goal.returns-then-not-are_read
returns-then-not-are_read g c =
    let seen = c.in_ok-told.told.items.items in
    let format = c.args.shape.now in
    let fits : c.in_ok-told.told.fits ≡ true = c.if-not-told.false in
    let unread : sees_read seen ≡ false = ap sees_read (sym c.deref.ensures.value) ∙ sym c.if-not-are_read.ensures in
    record {
      exactly = sym (answer_by format c.args.spacecraft c.args.one.now c.args.other.now c.args.fates.now seen true c.in_ok-told.ensures.items
          (sym fits ∙ c.in_ok-told.ensures.fits) false (list_all (sees_merge format seen) virtual_channels) unread refl);
      packets = λ holds vc below. absurd (cc);
      recorded = λ holds vc below. absurd (cc);
    }

pub loop-vc-preserved : goal.loop-vc-preserved
loop-vc-preserved g c =
    let seen = c.in_ok-told.told.items.items in
    let format = c.args.shape.now in
    let vc = c.loop-vc.vc in
    let below : vc < 8 = omega arith in
    let right : sees_merge format seen vc ≡ true =
    ap (is_merge_on format) (sym (c.deref-in-loop-vc-2.ensures.value ∙ c.in_ok-channel.ensures ∙ ap (seen_on vc) c.deref-in-loop-vc.ensures.value))
    ∙ sym c.in_ok-is_right.ensures ∙ c.if-not-is_right.false in
    channels_more (sees_merge format seen) vc below right ∙ c.loop-vc.invariant

pub returns : goal.returns
returns g c =
    let seen = c.in_ok-told.told.items.items in
    let format = c.args.shape.now in
    let fits : c.in_ok-told.told.fits ≡ true = c.if-not-told.false in
    let read : sees_read seen ≡ true = ap sees_read (sym c.deref.ensures.value) ∙ sym c.if-not-are_read.ensures in
    let none : 8 - c.loop-vc.vc ≡ 0 = omega arith in
    let positive : 0 < format.len = c.in_ok-told.ensures.positive in
    let merges : is_merge format c.args.spacecraft c.args.one.now c.args.other.now c.args.fates.now ≡ true =
    answer_by format c.args.spacecraft c.args.one.now c.args.other.now c.args.fates.now seen true c.in_ok-told.ensures.items
    (sym fits ∙ c.in_ok-told.ensures.fits) true true read
    (sym c.loop-vc.invariant ∙ ap (λ n. list_all (sees_merge format seen) (range_with_len c.loop-vc.vc n)) none) in
    record {
      exactly = sym merges;
      packets = λ holds. packets_stay format c.args.spacecraft c.args.one.now c.args.other.now c.args.fates.now positive merges;
      recorded = λ holds. recorded_stay format c.args.spacecraft c.args.one.now c.args.other.now c.args.fates.now positive merges;
    }

pub returns-then-not-is_right : goal.returns-then-not-is_right
returns-then-not-is_right g c =
    let seen = c.in_ok-told.told.items.items in
    let format = c.args.shape.now in
    let vc = c.loop-vc.vc in
    let below : vc < 8 = omega arith in
    let fits : c.in_ok-told.told.fits ≡ true = c.if-not-told.false in
    let read : sees_read seen ≡ true = ap sees_read (sym c.deref.ensures.value) ∙ sym c.if-not-are_read.ensures in
    let wrong : sees_merge format seen vc ≡ false =
    ap (is_merge_on format) (sym (c.deref-in-loop-vc-2.ensures.value ∙ c.in_ok-channel.ensures ∙ ap (seen_on vc) c.deref-in-loop-vc.ensures.value))
    ∙ sym c.in_ok-is_right.ensures ∙ c.if-not-is_right.true in
    record {
      exactly = sym (answer_by format c.args.spacecraft c.args.one.now c.args.other.now c.args.fates.now seen true c.in_ok-told.ensures.items
          (sym fits ∙ c.in_ok-told.ensures.fits) true false read (sym c.loop-vc.invariant ∙ channels_not (sees_merge format seen) vc below wrong));
      packets = λ holds v in_range. absurd (cc);
      recorded = λ holds v in_range. absurd (cc);
    }
