use Rattle.std.proofs.Common.{◌≡◌, ◌+◌, suc, arith, rules, sym}
use Rattle.sllink_compare.specs.Questions.{is_other}
use Rattle.sllink_compare.proofs.QuestionLemmas.{no_place, some_place}
use Rattle.sllink_compare.proofs.questions.has_other_lines.Goals as goal

pub loop-place-preserved : goal.loop-place-preserved
loop-place-preserved c =
    let next : c.loop-place.place + 1 ≡ suc c.loop-place.place = omega arith in
    rw next (no_place (is_other c.args.allowed.now c.args.words.now) 0 c.loop-place.place c.loop-place.place (omega arith) c.loop-place.invariant (first_of (cc, search rules)))

pub returns-then-is_other : goal.returns-then-is_other
returns-then-is_other c =
    sym (some_place (is_other c.args.allowed.now c.args.words.now) 0 14 c.loop-place.place (omega arith) (omega arith) (first_of (cc, search rules)))

pub returns : goal.returns
returns c = let end : c.loop-place.place ≡ 14 = omega arith in sym (rw end at c.loop-place.invariant)
