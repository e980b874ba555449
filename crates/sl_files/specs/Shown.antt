use Rattle.std.specs.Prelude.{ℕ, ◌-◌, ◌++◌, List, Bool, false, not, ◌&&◌, ◌==◌, if◌then◌else◌, nat_le, nat_lt, length, chars, codes, encode_utf8, flat_map, replicate}
use Rattle.std.specs.Fmt.{digits}
use Rattle.std.specs.List.{list_any}
use Rattle.sl_files.specs.declared.TheConstants.{UNPRINTABLE}

-- whether a character can be printed: it is in no range of those that can't
abbrev pub is_printable : ℕ → Bool
is_printable letter = not (list_any (λ range. nat_le range.0 letter && nat_le letter range.1) UNPRINTABLE)

-- a number in hexadecimal, with zeros before its digits where they are fewer than `width`
abbrev pub hexadecimal : ℕ → ℕ → List ℕ
hexadecimal width number = replicate (width - length (digits 16 false number)) 48 ++ digits 16 false number

-- what stands for a character that can't be printed
abbrev pub escaped : ℕ → List ℕ
escaped letter =
    if letter == 10 then codes "\\n"
    else (if letter == 13 then codes "\\r"
    else (if letter == 9 then codes "\\t"
    else (if nat_lt letter 0x100 then codes "\\x" ++ hexadecimal 2 letter
    else (if nat_lt letter 0x10000 then codes "\\u" ++ hexadecimal 4 letter
    else codes "\\U" ++ hexadecimal 8 letter))))

-- what stands for a character
abbrev pub shown_letter : ℕ → List ℕ
shown_letter letter = if is_printable letter then encode_utf8 letter else escaped letter

-- what stands for a name
abbrev pub shown : List ℕ → List ℕ
shown name = if length name == 0 then codes "''" else flat_map shown_letter (chars name)
