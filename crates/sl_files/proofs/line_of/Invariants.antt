use Rattle.std.proofs.Common.{◌≡◌, ◌++◌, string_bytes, length, drop}
use Rattle.std.specs.Str.Lines.{lines}
use denote.Text.{Utf8}
use denote.Shadow.{shadow}
use Rattle.sl_files.specs.Line.{one_line}
use Rattle.sl_files.proofs.LineLemmas.{to_come}
use Rattle.sl_files.proofs.line_of.Given as goal

abbrev pub invariant-loop-line : goal.invariant-loop-line
invariant-loop-line l =
    (goal.iterator-loop-line).can_next l.line-iterator ×
    (goal.iterator-loop-line).is_finite l.line-iterator ×
    shadow (Utf8 l.before) ×
    (string_bytes l.reason ++ to_come l.before (drop (length l.yielded) (lines l.text)) ≡ one_line l.text)
