use Rattle.std.proofs.Common.{◌≡◌, ◌∙◌, ◌<◌, arith, false, length, rules, sym}
use Rattle.std.specs.Prelude.{bytes_eq}
use Rattle.sl_engine.specs.Compare.Words.{word_text}
use Rattle.sl_engine.specs.declared.compare.words.CheckWord.TheVariants.{Skip}
use Rattle.sllink_compare.specs.Words.{word_at, words}
use Rattle.sllink_compare.proofs.CommandLineLemmas.{stands_later}
use Rattle.sllink_compare.proofs.command_line.place_of.Goals as goal

pub loop-place-preserved : goal.loop-place-preserved
loop-place-preserved c =
    let word = c.args.word.now in
    let place = c.loop-place.place in
    let other : bytes_eq (word_text (word_at place)) word ≡ false = first_of (cc, search rules) in
    c.loop-place.invariant ∙ stands_later (λ one. bytes_eq (word_text one) word) words place place Skip c.loop-place-test.true other
