use Rattle.std.proofs.Common.{◌≡◌, ◌∙◌, ◌++◌, ap, arith, sym}
use Rattle.std.specs.Prelude.{codes, string_bytes}
use Rattle.sllink_compare.specs.Asking.{word_asked}
use Rattle.sllink_compare.specs.Totals.{listed}
use Rattle.sllink_compare.proofs.AskingLemmas.{no_word_asked, word_is_asked}
use Rattle.sllink_compare.proofs.TotalsLemmas.{is_none_yet, none_listed, one_listed}
use Rattle.sllink_compare.proofs.asking.push_asked.Goals.{then-is_asked+in_ok-push_word, else-is_asked}
use Rattle.sllink_compare.proofs.asking.push_asked.Goals as goal

pub loop-place-preserved : goal.loop-place-preserved
loop-place-preserved c =
    let allowed = c.args.allowed.now in
    let first = c.args.first.now in
    let second = c.args.second.now in
    let asked = word_asked allowed first second in
    let place = c.loop-place.place in
    let old = string_bytes c.args.line.now in
    let so_far = c.loop-place.invariant in
    elim c.if-is_asked.branch [
      | then-is_asked+in_ok-push_word w ↦
          let found = word_is_asked allowed first second place c.is_asked.ensures w.if-is_asked.true w.text_of.ensures in
          let made = one_listed asked (codes ",") old place w.in_ok-push_word.ensures so_far.0 found w.mark_before.ensures so_far.1 in
          (ap string_bytes w.line-is ∙ made.0, w.is_first-is ∙ made.1)
      | else-is_asked w ↦
          let none = sym (none_listed asked place (no_word_asked allowed first second place c.is_asked.ensures w.if-is_asked.false)) in
          (ap string_bytes w.line-is ∙ so_far.0 ∙ ap (λ l. old ++ listed (codes ",") l) none, w.is_first-is ∙ so_far.1 ∙ ap is_none_yet none)
    ]

pub returns : goal.returns
returns c = let end : c.loop-place.place ≡ 14 = omega arith in rw end at c.loop-place.invariant.0
