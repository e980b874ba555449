use Rattle.std.proofs.Common.{◌≡◌, suc, ◌+◌, [], ◌∷◌, slice_set, None, Some, sym, ap, subst, ◌∙◌, arith}
use Rattle.std.proofs.lemmas.Option.{none-some, same_Some}
use Rattle.std.proofs.lemmas.Str.Pattern.{split_parts}
use Rattle.sl_cop.specs.Starts.{Item, Lists, starts_over}
use Rattle.sl_cop.proofs.StartsLemmas.{one_over, set_over}
use Rattle.sl_cop.proofs.StartsTextLemmas.{has_more, has_one, lists_more, lists_one}
use Rattle.sl_cop.proofs.starts.+read_from.Goals as goal

pub returns-in_err-vc-in-Some-clause-every : goal.returns-in_err-vc-in-Some-clause-every
returns-in_err-vc-in-Some-clause-every t c items listed =
    let parts = split_parts 44 c.args.text.now (Some (c.in-Some.first, c.in-Some.rest)) c.in-Some.ensures.cases (omega arith) in
    let more = has_more c.args.least c.args.text.now c.in-Some.first.now c.in-Some.rest.now items parts.0 parts.1 listed in
    absurd (none-some _ (c.in_err-vc-in-Some.ensures.every more.item more.is_item more.written))

pub returns-in_err-above-in-Some-clause-every : goal.returns-in_err-above-in-Some-clause-every
returns-in_err-above-in-Some-clause-every t c items listed =
    let parts = split_parts 44 c.args.text.now (Some (c.in-Some.first, c.in-Some.rest)) c.in-Some.ensures.cases (omega arith) in
    let more = has_more c.args.least c.args.text.now c.in-Some.first.now c.in-Some.rest.now items parts.0 parts.1 listed in
    let same = same_Some _ _ (c.in_ok-vc-in-Some.ensures.every more.item more.is_item more.written) in
    let next : suc more.item.vc ≡ c.in_ok-vc-in-Some.vc + 1 = omega (arith, ap (λ p. p.0) same) in
    absurd (none-some _ (c.in_err-above-in-Some.ensures.every more.above (subst (λ n. Lists n c.in-Some.rest.now more.above) next more.listed)))

pub returns-in_err-vc-in-None-clause-every : goal.returns-in_err-vc-in-None-clause-every
returns-in_err-vc-in-None-clause-every t c items listed =
    let none = split_parts 44 c.args.text.now None c.in-None.ensures.cases (omega arith) in
    let only = has_one c.args.least c.args.text.now items none listed in
    absurd (none-some _ (c.in_err-vc-in-None.ensures.every only.item only.is_item only.written))

pub returns-in_ok-above-in-Some-clause-listed : goal.returns-in_ok-above-in-Some-clause-listed
returns-in_ok-above-in-Some-clause-listed t c =
    let parts = split_parts 44 c.args.text.now (Some (c.in-Some.first, c.in-Some.rest)) c.in-Some.ensures.cases (omega arith) in
    let item : Item = record { vc = c.in_ok-vc-in-Some.vc; vr = c.in_ok-vc-in-Some.vr } in
    let is = c.in_ok-vc-in-Some.ensures.item in
    let above = c.in_ok-above-in-Some.ensures.listed in
    let next : c.in_ok-vc-in-Some.vc + 1 ≡ suc item.vc = omega arith in
    record {
      items = item ∷ above.items;
      listed =
          lists_more c.args.least c.args.text.now c.in-Some.first.now c.in-Some.rest.now item above.items parts.0 is.0 is.1
          (subst (λ n. Lists n c.in-Some.rest.now above.items) next above.listed);
      over =
          set_over c.args.starts.now c.with.result item above.items (c.with.ensures.value ∙ ap (λ l. slice_set l item.vc item.vr) above.over)
          c.with.ensures.octets is.0.high;
    }

pub returns-in_ok-above-in-Some-clause-every : goal.returns-in_ok-above-in-Some-clause-every
returns-in_ok-above-in-Some-clause-every t c items listed =
    let parts = split_parts 44 c.args.text.now (Some (c.in-Some.first, c.in-Some.rest)) c.in-Some.ensures.cases (omega arith) in
    let more = has_more c.args.least c.args.text.now c.in-Some.first.now c.in-Some.rest.now items parts.0 parts.1 listed in
    let same = same_Some _ _ (c.in_ok-vc-in-Some.ensures.every more.item more.is_item more.written) in
    let next : suc more.item.vc ≡ c.in_ok-vc-in-Some.vc + 1 = omega (arith, ap (λ p. p.0) same) in
    let above = same_Some _ _ (c.in_ok-above-in-Some.ensures.every more.above (subst (λ n. Lists n c.in-Some.rest.now more.above) next more.listed)) in
    let changed = c.with.ensures.value ∙ ap (λ l. slice_set l c.in_ok-vc-in-Some.vc c.in_ok-vc-in-Some.vr) above ∙ ap (λ p. slice_set (starts_over c.args.starts.now more.above) p.0 p.1) same in
    ap Some (set_over c.args.starts.now c.with.result more.item more.above changed c.with.ensures.octets more.is_item.high ∙ ap (starts_over c.args.starts.now) (sym more.both))

pub returns-in_ok-vc-in-None-clause-listed : goal.returns-in_ok-vc-in-None-clause-listed
returns-in_ok-vc-in-None-clause-listed t c =
    let item : Item = record { vc = c.in_ok-vc-in-None.vc; vr = c.in_ok-vc-in-None.vr } in
    let is = c.in_ok-vc-in-None.ensures.item in
    record {
      items = item ∷ [];
      listed = lists_one c.args.least c.args.text.now item is.0 is.1;
      over = one_over c.args.starts.now c.with-in-None.result item c.with-in-None.ensures.value c.with-in-None.ensures.octets is.0.high;
    }

pub returns-in_ok-vc-in-None-clause-every : goal.returns-in_ok-vc-in-None-clause-every
returns-in_ok-vc-in-None-clause-every t c items listed =
    let none = split_parts 44 c.args.text.now None c.in-None.ensures.cases (omega arith) in
    let only = has_one c.args.least c.args.text.now items none listed in
    let same = same_Some _ _ (c.in_ok-vc-in-None.ensures.every only.item only.is_item only.written) in
    let changed = c.with-in-None.ensures.value ∙ ap (λ p. slice_set c.args.starts.now p.0 p.1) same in
    ap Some (one_over c.args.starts.now c.with-in-None.result only.item changed c.with-in-None.ensures.octets only.is_item.high ∙ ap (starts_over c.args.starts.now) (sym only.alone))
