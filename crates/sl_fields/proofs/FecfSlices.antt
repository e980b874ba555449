-- What slices of sixteen octets, their sums and their pieces add to the remainder of a message.
use Rattle.std.proofs.Common.{◌≡◌, ℕ, zero, suc, ◌+◌, ◌-◌, ◌≤◌, true, leb, List, [], ◌∷◌, ◌++◌, length, take, drop, replicate, refl, sym, ◌∙◌, ap, arith, bit_xor}
use Rattle.std.specs.List.{range_with_len}
use Rattle.std.specs.Simd.Lanes.{zip2, pick_l}
use Rattle.std.proofs.lemmas.Bool.{leb-true}
use Rattle.std.proofs.lemmas.List.{length-append, length-take, length-drop, take-append-drop, drop-append-le, take-take}
use Rattle.std.proofs.lemmas.Simd.{length-zip2, pick_l-range_with_len}
use Rattle.std.proofs.Math.Seq.{take-append-add}
use Rattle.sl_fields.specs.FecfFolds.{part_of}
use Rattle.sl_fields.proofs.FecfParts.{part-append, part-nil, part-zero, part-none, part-plus}
use Rattle.sl_fields.proofs.Xor.{xor_none}

abbrev pub zero_slice : List ℕ
zero_slice = replicate 16 0

-- sixteen octets of two slices end to end
pub picked : (from : ℕ) (left right : List ℕ) → from ≤ 16 → length left ≡ 16 → length right ≡ 16 → pick_l 0 (left ++ right) (range_with_len from 16) ≡ drop from left ++ take from right
picked from left right h e f =
    let short : length (drop from left) + from ≡ 16 = omega (arith, length-drop from left) in
    let within : from + 16 ≤ length (left ++ right) = omega (arith, length-append left right) in
    pick_l-range_with_len 0 (left ++ right) from 16 within
    ∙ ap (take 16) (drop-append-le from left right (omega arith))
    ∙ ap (λ n. take n (drop from left ++ right)) (sym short)
    ∙ take-append-add (drop from left) right from

-- A bound on a numeral is a test here, `leb 4 16 ≡ true` and not `4 ≤ 16`: it computes, so `simp` proves it by itself.
pub length-across : (from : ℕ) (left right : List ℕ) → leb from 16 ≡ true → length left ≡ 16 → length right ≡ 16 → length (drop from left ++ take from right) ≡ 16
length-across from left right h e f = omega (arith, leb-true from 16 h, length-append (drop from left) (take from right), length-drop from left, length-take from right)

pub part-across : (from later : ℕ) (left right : List ℕ) → leb from 16 ≡ true → length right ≡ 16 → part_of later (drop from left ++ take from right) ≡ bit_xor (part_of (from + later) (drop from left)) (part_of later (take from right))
part-across from later left right h f =
    let long : length (take from right) ≡ from = omega (arith, leb-true from 16 h, length-take from right) in
    part-append later (drop from left) (take from right) ∙ ap (λ n. bit_xor (part_of (n + later) (drop from left)) (part_of later (take from right))) long

-- sums of slices
pub length-sum : (xs ys : List ℕ) → length xs ≡ 16 → length ys ≡ 16 → length (zip2 bit_xor xs ys) ≡ 16
length-sum xs ys e f = length-zip2 bit_xor xs ys (e ∙ sym f) ∙ e

pub part-sum : (later : ℕ) (xs ys : List ℕ) → length xs ≡ 16 → length ys ≡ 16 → part_of later (zip2 bit_xor xs ys) ≡ bit_xor (part_of later xs) (part_of later ys)
part-sum later xs ys e f = part-plus later xs ys (e ∙ sym f)

-- pieces of a slice of zeros
pub dropped_none : (n m later : ℕ) → part_of later (drop n (replicate m 0)) ≡ 0
dropped_none zero m later = part-none later m
dropped_none (suc n) zero later = part-nil later
dropped_none (suc n) (suc m) later = dropped_none n m later

pub taken_none : (n m later : ℕ) → part_of later (take n (replicate m 0)) ≡ 0
taken_none zero m later = part-nil later
taken_none (suc n) zero later = part-nil later
taken_none (suc n) (suc m) later = part-zero later (take n (replicate m 0)) ∙ taken_none n m later

pub ruleset slices = (part-sum, part-across, dropped_none, taken_none, length-sum, length-across, xor_none)

-- the two pieces of a slice
pub part-cut : (from rest later : ℕ) (xs : List ℕ) → from + rest ≡ 16 → length xs ≡ 16 → part_of later xs ≡ bit_xor (part_of (rest + later) (take from xs)) (part_of later (drop from xs))
part-cut from rest later xs h e =
    let long : length (drop from xs) ≡ rest = omega (arith, length-drop from xs) in
    ap (part_of later) (sym (take-append-drop from xs)) ∙ part-append later (take from xs) (drop from xs) ∙ ap (λ n. bit_xor (part_of (n + later) (take from xs)) (part_of later (drop from xs))) long

-- The first octets of a slice to which the octets of a slice are added, each 16 - `from` places later: so many zeros has
-- `drop from zero_slice`.

take-zip2 : (n : ℕ) (xs ys : List ℕ) → take n (zip2 bit_xor xs ys) ≡ zip2 bit_xor (take n xs) (take n ys)
take-zip2 zero xs ys = refl
take-zip2 (suc n) [] ys = refl
take-zip2 (suc n) (x ∷ xs) [] = refl
take-zip2 (suc n) (x ∷ xs) (y ∷ ys) = ap (λ rest. bit_xor x y ∷ rest) (take-zip2 n xs ys)

-- zeros in front take the place of as many of the first octets
part-later : (n from m later : ℕ) (ys : List ℕ) → part_of later (take n (drop from (replicate m 0) ++ ys)) ≡ part_of later (take (n - (m - from)) ys)
part-later n (suc from) zero later ys = ap (λ k. part_of later (take k ys)) (omega arith)
part-later n (suc from) (suc m) later ys =
    let same : m - from ≡ suc m - suc from = omega arith in
    part-later n from m later ys ∙ ap (λ k. part_of later (take (n - k) ys)) same
part-later n zero zero later ys = ap (λ k. part_of later (take k ys)) (omega arith)
part-later zero zero (suc m) later ys = let past : 0 ≡ 0 - (suc m - 0) = omega arith in ap (λ k. part_of later (take k ys)) past
part-later (suc n) zero (suc m) later ys =
    let same : n - (m - 0) ≡ suc n - (suc m - 0) = omega arith in
    part-zero later (take n (replicate m 0 ++ ys)) ∙ part-later n zero m later ys ∙ ap (λ k. part_of later (take k ys)) same

pub part-first : (n from later : ℕ) (xs ys : List ℕ) → leb n 16 ≡ true → leb from 16 ≡ true → length xs ≡ 16 → length ys ≡ 16 → part_of later (take n (zip2 bit_xor xs (drop from zero_slice ++ take from ys))) ≡ bit_xor (part_of later (take n xs)) (part_of later (take (n - (16 - from)) ys))
part-first n from later xs ys h k e f =
    let both = drop from zero_slice ++ take from ys in
    let long : length both ≡ 16 = length-across from zero_slice ys k refl f in
    let same : length (take n xs) ≡ length (take n both) = omega (arith, length-take n xs, length-take n both) in
    ap (part_of later) (take-zip2 n xs both)
    ∙ part-plus later (take n xs) (take n both) same
    ∙ ap (bit_xor (part_of later (take n xs)))
    (part-later n from 16 later (take from ys) ∙ ap (part_of later) (take-take (n - (16 - from)) from ys (omega (arith, leb-true n 16 h))))

-- slices end to end

pub part-two : (later : ℕ) (r t : List ℕ) → length t ≡ 16 → part_of later (r ++ t) ≡ bit_xor (part_of (16 + later) r) (part_of later t)
part-two later r t e = part-append later r t ∙ ap (λ n. bit_xor (part_of (n + later) r) (part_of later t)) e

pub part-four : (later : ℕ) (p q r t : List ℕ) → length q ≡ 16 → length r ≡ 16 → length t ≡ 16 → part_of later (p ++ (q ++ (r ++ t))) ≡ bit_xor (part_of (48 + later) p) (bit_xor (part_of (32 + later) q) (bit_xor (part_of (16 + later) r) (part_of later t)))
part-four later p q r t e f g =
    let two : length (r ++ t) + later ≡ 32 + later = omega (arith, length-append r t) in
    let three : length (q ++ (r ++ t)) + later ≡ 48 + later = omega (arith, length-append q (r ++ t), length-append r t) in
    rw (part-append later p (q ++ (r ++ t)), part-append later q (r ++ t), part-two later r t g, two, three) refl
