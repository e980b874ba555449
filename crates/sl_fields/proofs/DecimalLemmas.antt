-- The reading of a number of one octet from decimal text.
use Rattle.std.proofs.Common.{◌≡◌, ◌≢◌, ◌⊎◌, ℕ, zero, suc, ◌^◌, ◌<◌, ◌≤◌, List, [], ◌∷◌, length, slice_index_or, Option, Some, IfSome, Result, Ok, Err, refl, sym, ap, subst, ◌∙◌, arith}
use Rattle.std.specs.Fmt.{decimal}
use Rattle.std.specs.Result.{result_ok}
use Rattle.std.specs.Str.Parse.{AllDigits, ParsesUnsigned, digits_value, without_leading_plus}
use Rattle.std.proofs.lemmas.Fmt.{decimal_digit, decimal-digits_value, digits_decimal, first_decimal, parse-decimal}
use Rattle.std.proofs.lemmas.List.{length-drop}
use Rattle.std.proofs.lemmas.Str.Parse.{IsNumeralModel, numerals_by_value, tells_digits, not_in_digits, without_leading_plus_none, without_leading_plus_plus}
use Rattle.sl_fields.proofs.JoinedLemmas.{HasNo}

own : IsNumeralModel (AllDigits 10) (digits_value 10)
own = numerals_by_value (AllDigits 10) tells_digits

-- a text without leading zeros: one character, or a first character of 1 or above
abbrev pub IsUnpadded : List ℕ → Type 0
IsUnpadded text = 1 < length text → 49 ≤ slice_index_or text 0 0

-- an unpadded text that begins with 0 has one character
one : (text : List ℕ) → 0 < length text → IsUnpadded text → slice_index_or text 0 0 ≡ 48 → length text ≡ 1
one [] some lead e = absurd (omega arith)
one (c ∷ []) some lead e = refl
one (c ∷ d ∷ rest) some lead e = absurd (omega (arith, lead (omega arith)))

-- an unpadded text that is read as a number is this number in decimal
is_decimal : {E : Type 0} (r : Result ℕ E) (text : List ℕ) (n : ℕ) → ParsesUnsigned 8 10 text r → r ≡ Ok n → IsUnpadded text → text ≡ decimal n
is_decimal r text n parsed is lead =
    let read = subst (λ l. ParsesUnsigned 8 10 text l) is parsed in
    let plain : slice_index_or text 0 0 ≢ 43 = λ e. absurd (omega (arith, lead (omega (arith, ap length (without_leading_plus_plus text e), length-drop 1 text, read.0.0.0)))) in
    let same : without_leading_plus text ≡ text = without_leading_plus_none text plain in
    let digits : AllDigits 10 text = subst (AllDigits 10) same read.0.0.1 in
    let some : 0 < length text = omega (arith, ap length same, read.0.0.0) in
    let value : n ≡ digits_value 10 text = read.1 ∙ ap (digits_value 10) same in
    let small : digits_value 10 text < 2 ^ 64 = omega (arith, ap (digits_value 10) same, read.0.1) in
    sym (decimal-digits_value own text digits some (one text some lead) small) ∙ ap decimal (sym value)

-- where an unpadded text is read as a number, the text is this number in decimal
pub reads_decimal : {E : Type 0} (r : Result ℕ E) (read : Option ℕ) (text : List ℕ) → ParsesUnsigned 8 10 text r → read ≡ result_ok r → IsUnpadded text → IfSome read (λ n. text ≡ decimal n)
reads_decimal {E} (Ok n) read text parsed is lead = subst (λ o. IfSome o (λ m. text ≡ decimal m)) (sym is) (is_decimal {E = E} (Ok n) text n parsed refl lead)
reads_decimal {E} (Err e) read text parsed is lead = subst (λ o. IfSome o (λ m. text ≡ decimal m)) (sym is) tt

-- the decimal text of a number up to 255 is read as this number
pub reads_it : {E : Type 0} (r : Result ℕ E) (read : Option ℕ) (text : List ℕ) (n : ℕ) → ParsesUnsigned 8 10 text r → read ≡ result_ok r → n ≤ 255 → text ≡ decimal n → read ≡ Some n
reads_it r read text n parsed is small written = is ∙ ap result_ok (parse-decimal 8 n text r (omega arith) (omega arith) written parsed)

-- the decimal text of a number up to 255 has no leading zero
pub unpadded : (text : List ℕ) (n : ℕ) → n ≤ 255 → text ≡ decimal n → IsUnpadded text
unpadded text zero small is many = absurd (omega (arith, ap length (is ∙ decimal_digit 0 (omega arith))))
unpadded text (suc n) small is many = omega (arith, first_decimal (suc n) (omega arith) (omega arith), ap (λ l. slice_index_or l 0 0) is)

-- the decimal text of a number up to 255 has only digits
pub decimal_has_no : (c n : ℕ) → c < 48 ⊎ 57 < c → n ≤ 255 → HasNo c (decimal n)
decimal_has_no c n other small = not_in_digits own (decimal n) c (digits_decimal own n (omega arith)) (λ between. absurd (omega (arith, between, other)))
