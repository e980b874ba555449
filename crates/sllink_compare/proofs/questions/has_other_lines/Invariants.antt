use Rattle.std.proofs.Common.{◌≡◌, false}
use Rattle.std.specs.List.{list_any, range_with_len}
use Rattle.sllink_compare.specs.Questions.{is_other}
use Rattle.sllink_compare.proofs.questions.has_other_lines.Given as goal

abbrev pub invariant-loop-place : goal.invariant-loop-place
invariant-loop-place l = list_any (is_other l.allowed l.words) (range_with_len 0 l.place) ≡ false
