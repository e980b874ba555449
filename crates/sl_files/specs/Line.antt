use Rattle.std.specs.Prelude.{◌≡◌, ℕ, List, Bool, not, ◌||◌, ◌==◌, length, map, codes, filter, IfSome, Option, nat_eq}
use Rattle.std.specs.List.{before_first, join_by, slice_split, starts_with}
use Rattle.std.specs.Str.{trim}
use Rattle.std.specs.Str.Lines.{lines}

-- whether what follows the reason begins with this line: the usage, or the hint at the help
abbrev pub ends_reason : List ℕ → Bool
ends_reason line = starts_with nat_eq line (codes "Usage:") || starts_with nat_eq line (codes "For more information")

-- the lines of the reason, without white space around them
abbrev pub reason_lines : List ℕ → List (List ℕ)
reason_lines text = before_first ends_reason (map trim (lines text))

-- lines in parts, where blank lines stand between
abbrev pub parts_of : List (List ℕ) → List (List (List ℕ))
parts_of lines = filter (λ part. not (length part == 0)) (slice_split (λ line. length line == 0) lines)

-- lines as one: a space stands between the lines of a part, and a semicolon and a space between parts
abbrev pub joined : List (List ℕ) → List ℕ
joined lines = join_by (join_by (λ line. line) (codes " ")) (codes "; ") (parts_of lines)

-- the reason that a text gives, in one line
abbrev pub one_line : List ℕ → List ℕ
one_line text = joined (reason_lines text)

-- a line gives the reason in the text that is displayed; of a value that doesn't say which text that is, in some text
abbrev pub IsLineOf : Option (List ℕ) → List ℕ → Type 0
IsLineOf displayed line = (text : List ℕ) × IfSome displayed (λ it. text ≡ it) × (line ≡ one_line text)
