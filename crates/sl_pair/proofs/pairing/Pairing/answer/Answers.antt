use Rattle.std.proofs.Common.{refl, subst, sym}
use Rattle.sl_pair.specs.Pairing.{AreChannels}
use Rattle.sl_pair.proofs.PairingLemmas.{matched_in_place, not_told, same_is_in_place, same_is_matched}
use Rattle.sl_pair.proofs.pairing.Pairing.answer.Goals as goal

pub returns-then-not-are_matched-clause-same : goal.returns-then-not-are_matched-clause-same
returns-then-not-are_matched-clause-same g c = λ firsts seconds stands.
    let are = subst (λ l. AreChannels l firsts seconds) (sym c.as_slice.ensures.value) stands in
    let left = not_told c.are_matched.result c.if-not-are_matched.true (c.are_matched.ensures firsts seconds are) in (
      (λ same. let none : ⊥ = cc in absurd none),
      (λ same. absurd (left (same_is_matched firsts seconds same))),
    )

pub returns-then-not-are_matched-clause-different : goal.returns-then-not-are_matched-clause-different
returns-then-not-are_matched-clause-different g c = λ firsts seconds stands.
    let are = subst (λ l. AreChannels l firsts seconds) (sym c.as_slice.ensures.value) stands in (
      (λ same. not_told c.are_matched.result c.if-not-are_matched.true (c.are_matched.ensures firsts seconds are)),
      (λ left. refl),
    )

pub returns-then-are_in_place-clause-same : goal.returns-then-are_in_place-clause-same
returns-then-are_in_place-clause-same g c = λ firsts seconds stands.
    let are = subst (λ l. AreChannels l firsts seconds) (sym c.as_slice.ensures.value) stands in
    let also = subst (λ l. AreChannels l firsts seconds) (sym c.as_slice-2.ensures.value) stands in
    let none = (c.are_matched.ensures firsts seconds are).0 c.if-not-are_matched.false in
    let all = (c.are_in_place.ensures firsts seconds also).0 c.if-are_in_place.true in
    ((λ same. matched_in_place firsts seconds none all), (λ same. refl))

pub returns-then-are_in_place-clause-different : goal.returns-then-are_in_place-clause-different
returns-then-are_in_place-clause-different g c = λ firsts seconds stands.
    let are = subst (λ l. AreChannels l firsts seconds) (sym c.as_slice.ensures.value) stands in
    let none = (c.are_matched.ensures firsts seconds are).0 c.if-not-are_matched.false in
    ((λ same. let no : ⊥ = cc in absurd no), (λ left. absurd (left none)))

pub returns-else-are_in_place-clause-same : goal.returns-else-are_in_place-clause-same
returns-else-are_in_place-clause-same g c = λ firsts seconds stands.
    let also = subst (λ l. AreChannels l firsts seconds) (sym c.as_slice-2.ensures.value) stands in
    let moved = not_told c.are_in_place.result c.if-are_in_place.false (c.are_in_place.ensures firsts seconds also) in (
      (λ same. let none : ⊥ = cc in absurd none),
      (λ same. absurd (moved (same_is_in_place firsts seconds same))),
    )

pub returns-else-are_in_place-clause-different : goal.returns-else-are_in_place-clause-different
returns-else-are_in_place-clause-different g c = λ firsts seconds stands.
    let are = subst (λ l. AreChannels l firsts seconds) (sym c.as_slice.ensures.value) stands in
    let none = (c.are_matched.ensures firsts seconds are).0 c.if-not-are_matched.false in
    ((λ same. let no : ⊥ = cc in absurd no), (λ left. absurd (left none)))
