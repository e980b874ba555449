use Rattle.std.proofs.Common.{◌≡◌, suc, ◌+◌, [], ◌∷◌, None, Some, sym, ap, subst, ◌∙◌, arith}
use Rattle.std.proofs.lemmas.Option.{none-some, same_Some}
use Rattle.std.proofs.lemmas.Str.Pattern.{split_parts}
use Rattle.sl_tcframe.specs.VcSet.{Lists, with_vc}
use Rattle.sl_tcframe.proofs.VcSetLemmas.{with_first}
use Rattle.sl_tcframe.proofs.VcTextLemmas.{has_more, has_one, lists_more}
use Rattle.sl_tcframe.proofs.vc_set.+read_from.Goals as goal

pub returns-in_err-vc-in-Some-clause-every : goal.returns-in_err-vc-in-Some-clause-every
returns-in_err-vc-in-Some-clause-every t c vcs listed =
    let parts = split_parts 44 c.args.text.now (Some (c.in-Some.first, c.in-Some.rest)) c.in-Some.ensures.cases (omega arith) in
    let more = has_more c.args.least c.args.text.now c.in-Some.first.now c.in-Some.rest.now vcs parts.0 parts.1 listed in
    absurd (none-some _ (c.in_err-vc-in-Some.ensures.every more.vc more.low more.high more.is))

pub returns-in_err-above-in-Some-clause-every : goal.returns-in_err-above-in-Some-clause-every
returns-in_err-above-in-Some-clause-every t c vcs listed =
    let parts = split_parts 44 c.args.text.now (Some (c.in-Some.first, c.in-Some.rest)) c.in-Some.ensures.cases (omega arith) in
    let more = has_more c.args.least c.args.text.now c.in-Some.first.now c.in-Some.rest.now vcs parts.0 parts.1 listed in
    let same : c.in_ok-vc-in-Some.vc ≡ more.vc = same_Some _ _ (c.in_ok-vc-in-Some.ensures.every more.vc more.low more.high more.is) in
    let next : suc more.vc ≡ c.in_ok-vc-in-Some.vc + 1 = omega (arith, same) in
    absurd (none-some _ (c.in_err-above-in-Some.ensures.every more.above (subst (λ n. Lists n c.in-Some.rest.now more.above) next more.listed)))

pub returns-in_err-vc-in-None-clause-every : goal.returns-in_err-vc-in-None-clause-every
returns-in_err-vc-in-None-clause-every t c vcs listed =
    let none = split_parts 44 c.args.text.now None c.in-None.ensures.cases (omega arith) in
    let one = has_one c.args.least c.args.text.now vcs none listed in
    absurd (none-some _ (c.in_err-vc-in-None.ensures.every one.vc one.low one.high one.is))

pub returns-in_ok-above-in-Some-clause-listed : goal.returns-in_ok-above-in-Some-clause-listed
returns-in_ok-above-in-Some-clause-listed t c =
    let parts = split_parts 44 c.args.text.now (Some (c.in-Some.first, c.in-Some.rest)) c.in-Some.ensures.cases (omega arith) in
    let vc = c.in_ok-vc-in-Some.vc in
    let above = c.in_ok-above-in-Some.above in
    let is = c.in_ok-vc-in-Some.ensures.number in
    let next : vc + 1 ≡ suc vc = omega arith in
    let listed = subst (λ n. Lists n c.in-Some.rest.now above) next c.in_ok-above-in-Some.ensures.listed in
    subst (Lists c.args.least c.args.text.now) (sym (c.with.ensures.value ∙ with_first (suc vc) above vc listed.rising (omega arith)))
    (lists_more c.args.least c.args.text.now c.in-Some.first.now c.in-Some.rest.now vc above parts.0 is.0 is.1 is.2 listed)

pub returns-in_ok-above-in-Some-clause-every : goal.returns-in_ok-above-in-Some-clause-every
returns-in_ok-above-in-Some-clause-every t c vcs listed =
    let parts = split_parts 44 c.args.text.now (Some (c.in-Some.first, c.in-Some.rest)) c.in-Some.ensures.cases (omega arith) in
    let more = has_more c.args.least c.args.text.now c.in-Some.first.now c.in-Some.rest.now vcs parts.0 parts.1 listed in
    let same : c.in_ok-vc-in-Some.vc ≡ more.vc = same_Some _ _ (c.in_ok-vc-in-Some.ensures.every more.vc more.low more.high more.is) in
    let next : suc more.vc ≡ c.in_ok-vc-in-Some.vc + 1 = omega (arith, same) in
    let above : c.in_ok-above-in-Some.above ≡ more.above =
    same_Some _ _ (c.in_ok-above-in-Some.ensures.every more.above (subst (λ n. Lists n c.in-Some.rest.now more.above) next more.listed)) in
    ap Some (c.with.ensures.value ∙ ap (λ l. with_vc l c.in_ok-vc-in-Some.vc) above ∙ ap (with_vc more.above) same
    ∙ with_first (suc more.vc) more.above more.vc more.listed.rising (omega arith) ∙ sym more.both)

pub returns-in_ok-vc-in-None-clause-every : goal.returns-in_ok-vc-in-None-clause-every
returns-in_ok-vc-in-None-clause-every t c vcs listed =
    let none = split_parts 44 c.args.text.now None c.in-None.ensures.cases (omega arith) in
    let one = has_one c.args.least c.args.text.now vcs none listed in
    let same : c.in_ok-vc-in-None.vc ≡ one.vc = same_Some _ _ (c.in_ok-vc-in-None.ensures.every one.vc one.low one.high one.is) in
    ap Some (c.with-in-None.ensures.value ∙ ap (λ l. with_vc l c.in_ok-vc-in-None.vc) c.new.ensures ∙ ap (λ v. v ∷ []) same ∙ sym one.alone)
