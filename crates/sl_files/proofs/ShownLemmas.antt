-- What `write!` makes of a number with zeros before it.
use Rattle.std.proofs.Common.{◌≡◌, ◌≢◌, ◌<◌, ◌≤◌, ℕ, ◌-◌, ◌++◌, ◌^◌, List, [], length, replicate, cond, false, sym, ap, ◌∙◌, arith, append-nil, codes}
use Rattle.std.proofs.lemmas.Bool.Decides.{nat_tests}
use Rattle.std.specs.Char.{encode_utf8}
use Rattle.std.specs.Fmt.{char_count, digits, format_spec, padded_integral}
use Rattle.sl_files.specs.Shown.{escaped, hexadecimal, is_printable, shown_letter}

-- what `{:02x}` and its like write
abbrev pub written : ℕ → ℕ → List ℕ
written width number = padded_integral (format_spec 32 0 4 width (2 ^ 64 - 1)) false [] (digits 16 false number)

zeros : (width : ℕ) (numeral : List ℕ)
    → padded_integral (format_spec 32 0 4 width (2 ^ 64 - 1)) false [] numeral ≡ replicate (width - length numeral) 48 ++ numeral
unfolding char_count padded_integral
zeros width numeral =
    let exact : width - length numeral - 0 - 0 ≡ width - length numeral = omega arith in
    ap (λ t. replicate (width - length numeral - 0 - 0) 48 ++ t) (append-nil numeral) ∙ ap (λ n. replicate n 48 ++ numeral) exact

-- ---- what stands for a character that can't be printed

of_escaped : (letter : ℕ) → is_printable letter ≡ false → escaped letter ≡ shown_letter letter
of_escaped letter hidden = sym (ap (λ b. cond b (encode_utf8 letter) (escaped letter)) hidden)

escaped-two : (letter : ℕ) → letter ≢ 10 → letter ≢ 13 → letter ≢ 9 → letter < 256 → codes "\\x" ++ hexadecimal 2 letter ≡ escaped letter
escaped-two letter feed return tab low = grind (arith, nat_tests)

escaped-four : (letter : ℕ) → 256 ≤ letter → letter < 65536 → codes "\\u" ++ hexadecimal 4 letter ≡ escaped letter
escaped-four letter high low = grind (arith, nat_tests)

escaped-eight : (letter : ℕ) → 65536 ≤ letter → codes "\\U" ++ hexadecimal 8 letter ≡ escaped letter
escaped-eight letter high = grind (arith, nat_tests)

pub shown-two : (letter : ℕ) → is_printable letter ≡ false → letter ≢ 10 → letter ≢ 13 → letter ≢ 9 → letter < 256
    → codes "\\x" ++ written 2 letter ≡ shown_letter letter
shown-two letter hidden feed return tab low =
    ap (λ t. codes "\\x" ++ t) (zeros 2 (digits 16 false letter)) ∙ escaped-two letter feed return tab low ∙ of_escaped letter hidden

pub shown-four : (letter : ℕ) → is_printable letter ≡ false → 256 ≤ letter → letter < 65536
    → codes "\\u" ++ written 4 letter ≡ shown_letter letter
shown-four letter hidden high low =
    ap (λ t. codes "\\u" ++ t) (zeros 4 (digits 16 false letter)) ∙ escaped-four letter high low ∙ of_escaped letter hidden

pub shown-eight : (letter : ℕ) → is_printable letter ≡ false → 65536 ≤ letter → codes "\\U" ++ written 8 letter ≡ shown_letter letter
shown-eight letter hidden high =
    ap (λ t. codes "\\U" ++ t) (zeros 8 (digits 16 false letter)) ∙ escaped-eight letter high ∙ of_escaped letter hidden
