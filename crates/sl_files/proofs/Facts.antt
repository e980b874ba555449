-- Worked examples.
use Rattle.std.proofs.Common.{◌≡◌, ◌++◌, [], ◌∷◌, false, refl}
use Rattle.std.specs.Prelude.{codes}
use Rattle.std.specs.List.{list_any, range_with_len}
use Rattle.std.specs.Char.{encode_utf8}
use Rattle.std.specs.Fmt.{digits}
use Rattle.std.specs.Str.{chars, trim_end, trim_start}
use Rattle.sl_files.specs.Line.{one_line}
use Rattle.sl_files.specs.Shown.{is_printable, shown}

record Facts : Type 0 where
  nameless : shown [] ≡ codes "''"
  -- a space and U+00E9 can be printed
  name : shown (codes "a " ++ (0xC3 ∷ 0xA9 ∷ [])) ≡ codes "a " ++ (0xC3 ∷ 0xA9 ∷ [])
  -- a line feed, U+007F, U+2028 and U+E0001 can't
  hidden : shown (97 ∷ 10 ∷ 0x7F ∷ 0xE2 ∷ 0x80 ∷ 0xA8 ∷ 0xF3 ∷ 0xA0 ∷ 0x80 ∷ 0x81 ∷ []) ≡ codes "a\\n\\x7f\\u2028\\U000e0001"
  -- nor can any control character, a mark of direction, a byte order mark
  control : list_any is_printable (range_with_len 0 32 ++ range_with_len 127 33) ≡ false
  unseen : list_any is_printable (0xAD ∷ 0x200B ∷ 0x202E ∷ 0x2066 ∷ 0xFEFF ∷ []) ≡ false
  -- two parts and a usage
  parts : one_line (codes "error: one\n  two\n\n  tip: three\n\nUsage: four\n") ≡ codes "error: one two; tip: three"
  -- blank lines before and behind the reason
  blank : one_line (codes "\n\r\none\n \nFor more information, try '--help'.\n") ≡ codes "one"

facts : Facts
unfolding chars encode_utf8 digits trim_start trim_end
facts = record {
  nameless = refl;
  name = refl;
  hidden = refl;
  control = refl;
  unseen = refl;
  parts = refl;
  blank = refl;
}
