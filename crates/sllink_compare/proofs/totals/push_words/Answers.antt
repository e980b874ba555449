use Rattle.std.proofs.Common.{◌≡◌, ◌∙◌, ◌++◌, ap, sym, refl, arith}
use Rattle.std.specs.Prelude.{codes, string_bytes}
use Rattle.sllink_compare.specs.Totals.{listed, word_found}
use Rattle.sllink_compare.specs.Words.{number_at}
use Rattle.sllink_compare.proofs.TotalsLemmas.{is_none_yet, no_word_found, none_listed, one_listed, word_is_found}
use Rattle.sllink_compare.proofs.totals.push_words.Goals.{then-number-gt0+in_ok-push_word, else-number-gt0}
use Rattle.sllink_compare.proofs.totals.push_words.Goals as goal

pub loop-place-preserved : goal.loop-place-preserved
loop-place-preserved c =
    let counts = c.args.words.now in
    let place = c.loop-place.place in
    let old = string_bytes c.args.text.now in
    let so_far = c.loop-place.invariant in
    elim c.if-number-gt0.branch [
      | then-number-gt0+in_ok-push_word w ↦
          let found = word_is_found counts place c.of-number.ensures.value w.if-number-gt0.true w.text_of.ensures in
          let made = one_listed (word_found counts) (codes ", ") old place w.in_ok-push_word.ensures so_far.0 found w.mark_before.ensures so_far.1 in
          (ap string_bytes w.text-is ∙ made.0, w.is_first-is ∙ made.1)
      | else-number-gt0 w ↦
          let zero : number_at counts place ≡ 0 = omega (arith, w.if-number-gt0.false, c.of-number.ensures.value) in
          let none = sym (none_listed (word_found counts) place (no_word_found counts place refl zero)) in
          (ap string_bytes w.text-is ∙ so_far.0 ∙ ap (λ l. old ++ listed (codes ", ") l) none, w.is_first-is ∙ so_far.1 ∙ ap is_none_yet none)
    ]
