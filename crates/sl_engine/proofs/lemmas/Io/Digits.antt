-- Digits of numbers, and tables of them.
use Rattle.std.proofs.Common.{ℕ, ◌+◌, ◌-◌, ◌/◌, ◌%◌, ◌^◌, ◌<◌, ◌≤◌, ◌≡◌, List, [], ◌∷◌, ◌++◌, drop, take-append-drop, slice_index_or, refl, sym, ◌∙◌, ap, arith}
use Rattle.std.specs.Fmt.{decimal}
use Rattle.std.proofs.lemmas.Fmt.{decimal_digit}
use Rattle.itoa.proofs.Decimal.{decimal_four, decimal_pair, decimal_two, pair}
use Rattle.sl_engine.specs.Io.Digits.{AreDigits, AreOfLong, four_digits, two_digits}

-- a number over a hundred ends in its two digits
over_hundred : (n : ℕ) → n < 100 → decimal (100 + n) ≡ 49 ∷ two_digits n
over_hundred n below = grind (arith, decimal_digit, decimal_pair)

-- and they stand in its places
pub ends_over_hundred : (n : ℕ) (places : List ℕ) → n < 100 → AreDigits (100 + n) places
    → slice_index_or places 1 0 ∷ slice_index_or places 2 0 ∷ [] ≡ two_digits n
ends_over_hundred n places below d =
    let many : ℕ = slice_index_or places 3 0 in
    let text = sym (take-append-drop many places) ∙ ap (λ (l : List ℕ). l ++ drop many places) (d.digits ∙ over_hundred n below) in
    ap (λ (l : List ℕ). slice_index_or l 1 0 ∷ slice_index_or l 2 0 ∷ []) text

-- the digits of a long number, of one of four digits, and of one of three
pub decimal_by_four : (n : ℕ) → 10000 ≤ n → n < 2 ^ 64 → decimal n ≡ decimal (n / 10000) ++ four_digits (n % 10000)
decimal_by_four n long fits = decimal_four n long fits

-- a long number whose leading digits are those of `number`: `last` is its last four as a number
pub decimal_of_long : (n number least : ℕ) → AreOfLong number least → least ≤ n → n - least < 10000 → n < 2 ^ 64
    → decimal n ≡ decimal number ++ four_digits (n - least)
decimal_of_long n number least o above short fits =
    let long : 10000 ≤ n = omega (arith, o.some, o.least_is) in
    let leading : n / 10000 ≡ number = omega (arith, o.least_is) in
    let last : n % 10000 ≡ n - least = omega (arith, o.least_is) in
    decimal_four n long fits ∙ ap (λ (k : ℕ). decimal k ++ four_digits (n % 10000)) leading
    ∙ ap (λ (k : ℕ). decimal number ++ four_digits k) last

pub decimal_of_four : (n : ℕ) → 1000 ≤ n → n < 10000 → decimal n ≡ four_digits n
decimal_of_four n long short = rw (decimal_pair n (omega arith) (omega arith), decimal_two (n / 100) (omega arith) (omega arith)) refl

pub decimal_of_three : (n : ℕ) → 100 ≤ n → n < 1000 → decimal n ≡ drop 1 (four_digits n)
decimal_of_three n long short = grind (arith, decimal_digit, decimal_pair, pair)
