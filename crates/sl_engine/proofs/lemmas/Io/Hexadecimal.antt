-- Octets in hexadecimal.
use Rattle.std.proofs.Common.{◌≡◌, ℕ, suc, ◌+◌, ◌*◌, ◌/◌, ◌^◌, ◌<◌, ◌≤◌, List, [], ◌∷◌, ◌++◌, cond, leb, length, get_or, replicate, slice_index, refl, sym, ap, subst, ◌∙◌, arith, w8, bit_and, Fits, zero, ◌%◌, take, drop, add-zero, append-nil, append_assoc, take_all}
use Rattle.std.specs.Int.{w32, from_le_bytes}
use Rattle.std.specs.Simd.Lanes.{zip2, Each1, pick_l, put_chunk, digits_l, number_l}
use Rattle.std.proofs.lemmas.Simd.{swz_l, SwzOk, SwzOk-from_below, take_more_put_chunk, length-chunk, length-put_chunk}
use Rattle.std.proofs.lemmas.Bool.{lt-leb}
use Rattle.std.proofs.lemmas.Nat.{and_mask}
use Rattle.std.proofs.Math.Seq.{take-add, take-append-add, take-nil}
use Rattle.std.proofs.lemmas.List.{get_or_append_left, get_or-append-add, length-take-le, take-take}
use Rattle.hex.specs.Hex.{encode_lower, encode_with, lower_digits}
use Rattle.hex.proofs.HexLemmas.{length-encode_with}
use Rattle.sl_engine.specs.Io.Digits.{PutsBlock}

-- ---- the halves of octets, four bits each, and their digits, lane by lane

-- the halves of octets, the upper one of each first
unfoldable halves : List ℕ → List ℕ
halves [] = []
halves (x ∷ octets) = x / 16 ∷ bit_and x 15 ∷ halves octets

-- as vectors give those of eight
abbrev pub eight_halves : List ℕ → List ℕ
eight_halves octets =
    pick_l 0 (zip2 (λ a b. a / 2 ^ b) octets (replicate 8 4) ++ zip2 bit_and octets (replicate 8 15))
    (0 ∷ 8 ∷ 1 ∷ 9 ∷ 2 ∷ 10 ∷ 3 ∷ 11 ∷ 4 ∷ 12 ∷ 5 ∷ 13 ∷ 6 ∷ 14 ∷ 7 ∷ 15 ∷ [])

halves_of_eight : (octets : List ℕ) → length octets ≡ 8 → eight_halves octets ≡ halves octets
unfolding halves
halves_of_eight (a ∷ b ∷ c ∷ d ∷ e ∷ f ∷ g ∷ h ∷ []) long = refl
halves_of_eight octets long = absurd (omega arith)

-- and those of sixteen, and of 32
abbrev pub sixteen_halves : List ℕ → List ℕ
sixteen_halves octets =
    pick_l 0 (zip2 (λ a b. a / 2 ^ b) octets (replicate 16 4) ++ zip2 bit_and octets (replicate 16 15))
    (0 ∷ 16 ∷ 1 ∷ 17 ∷ 2 ∷ 18 ∷ 3 ∷ 19 ∷ 4 ∷ 20 ∷ 5 ∷ 21 ∷ 6 ∷ 22 ∷ 7 ∷ 23 ∷ 8 ∷ 24 ∷ 9 ∷ 25 ∷ 10 ∷ 26 ∷ 11 ∷ 27 ∷ 12 ∷ 28 ∷ 13 ∷ 29 ∷ 14 ∷ 30 ∷ 15 ∷ 31 ∷ [])

halves_of_sixteen : (octets : List ℕ) → length octets ≡ 16 → sixteen_halves octets ≡ halves octets
unfolding halves
halves_of_sixteen (x0 ∷ x1 ∷ x2 ∷ x3 ∷ x4 ∷ x5 ∷ x6 ∷ x7 ∷ x8 ∷ x9 ∷ x10 ∷ x11 ∷ x12 ∷ x13 ∷ x14 ∷ x15 ∷ []) long = refl
halves_of_sixteen octets long = absurd (omega arith)

abbrev pub halves_in_lanes : List ℕ → List ℕ
halves_in_lanes octets =
    pick_l 0 (zip2 (λ a b. a / 2 ^ b) octets (replicate 32 4) ++ zip2 bit_and octets (replicate 32 15))
    (0 ∷ 32 ∷ 1 ∷ 33 ∷ 2 ∷ 34 ∷ 3 ∷ 35 ∷ 4 ∷ 36 ∷ 5 ∷ 37 ∷ 6 ∷ 38 ∷ 7 ∷ 39 ∷ 8 ∷ 40 ∷ 9 ∷ 41 ∷ 10 ∷ 42 ∷ 11 ∷ 43 ∷ 12 ∷ 44 ∷ 13 ∷ 45 ∷ 14 ∷ 46 ∷ 15 ∷ 47 ∷ 16 ∷ 48 ∷ 17 ∷ 49 ∷ 18 ∷ 50 ∷ 19 ∷ 51 ∷ 20 ∷ 52 ∷ 21 ∷ 53 ∷ 22 ∷ 54 ∷ 23 ∷ 55 ∷ 24 ∷ 56 ∷ 25 ∷ 57 ∷ 26 ∷ 58 ∷ 27 ∷ 59 ∷ 28 ∷ 60 ∷ 29 ∷ 61 ∷ 30 ∷ 62 ∷ 31 ∷ 63 ∷ [])

halves_of_lanes : (octets : List ℕ) → length octets ≡ 32 → halves_in_lanes octets ≡ halves octets
unfolding halves
halves_of_lanes (x0 ∷ x1 ∷ x2 ∷ x3 ∷ x4 ∷ x5 ∷ x6 ∷ x7 ∷ x8 ∷ x9 ∷ x10 ∷ x11 ∷ x12 ∷ x13 ∷ x14 ∷ x15 ∷ x16 ∷ x17 ∷ x18 ∷ x19 ∷ x20 ∷ x21 ∷ x22 ∷ x23 ∷ x24 ∷ x25 ∷ x26 ∷ x27 ∷ x28 ∷ x29 ∷ x30 ∷ x31 ∷ []) long = refl
halves_of_lanes octets long = absurd (omega arith)

-- a half is below 16, and there are two of each octet
lower_below : (x : ℕ) → bit_and x 15 < 16
lower_below x = omega (arith, and_mask x 4)

halves_below : (octets : List ℕ) → Each1 (Fits w8) octets → Each1 (λ h. h < 16) (halves octets)
unfolding halves
halves_below [] fits = tt
halves_below (x ∷ octets) fits = (omega (arith, fits.0.fits), (lower_below x, halves_below octets fits.1))

length-halves : (octets : List ℕ) → length (halves octets) ≡ 2 * length octets
unfolding halves
length-halves [] = refl
length-halves (x ∷ octets) = let e = length-halves octets in omega (arith, e)

-- so they may be looked up,
pub eight_ok : (octets : List ℕ) → length octets ≡ 8 → Each1 (Fits w8) octets → SwzOk w8 16 16 0 (eight_halves octets)
eight_ok octets long fits =
    subst (SwzOk w8 16 16 0) (sym (halves_of_eight octets long))
    (SwzOk-from_below w8 16 1 16 0 (halves octets) refl (omega (arith, length-halves octets, long)) (halves_below octets fits))

-- and a look-up in the i-th of sixteen lanes gives a half's digit,
digit : (t : List ℕ) (i h : ℕ) → i < 16 → h < 16 → cond (leb 128 h) 0 (get_or t (16 * (i / 16) + h) 0) ≡ slice_index t h
digit t i h inside below = let place : 16 * (i / 16) + h ≡ h = omega arith in rw (place, lt-leb 128 h (omega arith)) refl

-- which together are those of the octets
digits_of_halves : (t octets : List ℕ) (i : ℕ) → i + 2 * length octets ≤ 16 → Each1 (Fits w8) octets
    → swz_l w8 16 t i (halves octets) ≡ encode_with t octets
unfolding halves encode_with
digits_of_halves t [] i inside fits = refl
digits_of_halves t (x ∷ octets) i inside fits =
    rw (digit t i (x / 16) (omega arith) (omega (arith, fits.0.fits)), digit t (suc i) (bit_and x 15) (omega arith) (lower_below x), and_mask x 4)
    (ap (λ l. slice_index t (x / 16) ∷ slice_index t (x % 16) ∷ l) (digits_of_halves t octets (suc (suc i)) (omega arith) fits.1))

pub eight_digits : (t octets : List ℕ) → length octets ≡ 8 → Each1 (Fits w8) octets → swz_l w8 16 t 0 (eight_halves octets) ≡ encode_with t octets
eight_digits t octets long fits = ap (swz_l w8 16 t 0) (halves_of_eight octets long) ∙ digits_of_halves t octets 0 (omega (arith, long)) fits

-- ---- the same of sixteen octets, and of 32, where the digits stand in the table once for each sixteen lanes

abbrev four_times : List ℕ → List ℕ
four_times t = t ++ (t ++ (t ++ t))

place : (q h : ℕ) → q < 4 → h < 16 → get_or (four_times lower_digits) (16 * q + h) 0 ≡ slice_index lower_digits h
place zero h few below =
    let t = lower_digits in
    let at : 16 * 0 + h ≡ h = omega arith in
    ap (λ (k : ℕ). get_or (four_times t) k 0) at ∙ get_or_append_left t (t ++ (t ++ t)) 0 h below
place (suc zero) h few below =
    let t = lower_digits in
    let at : 16 * 1 + h ≡ 16 + h = omega arith in
    ap (λ (k : ℕ). get_or (four_times t) k 0) at ∙ get_or-append-add t (t ++ (t ++ t)) h 0 ∙ get_or_append_left t (t ++ t) 0 h below
place (suc (suc zero)) h few below =
    let t = lower_digits in
    let at : 16 * 2 + h ≡ 16 + (16 + h) = omega arith in
    ap (λ (k : ℕ). get_or (four_times t) k 0) at ∙ get_or-append-add t (t ++ (t ++ t)) (16 + h) 0 ∙ get_or-append-add t (t ++ t) h 0
    ∙ get_or_append_left t t 0 h below
place (suc (suc (suc zero))) h few below =
    let t = lower_digits in
    let at : 16 * 3 + h ≡ 16 + (16 + (16 + h)) = omega arith in
    ap (λ (k : ℕ). get_or (four_times t) k 0) at ∙ get_or-append-add t (t ++ (t ++ t)) (16 + (16 + h)) 0
    ∙ get_or-append-add t (t ++ t) (16 + h) 0 ∙ get_or-append-add t t h 0
place (suc (suc (suc (suc q)))) h few below = absurd (omega (arith, few))

-- a table in which each of the first n times sixteen places has the digit of a half
record HasDigits (table : List ℕ) (n : ℕ) : Type 0 where
  at : (q h : ℕ) → q < n → h < 16 → get_or table (16 * q + h) 0 ≡ slice_index lower_digits h

digit_in_lane : {table : List ℕ} {n : ℕ} → HasDigits table n → (i h : ℕ) → i < 16 * n → h < 16
    → cond (leb 128 h) 0 (get_or table (16 * (i / 16) + h) 0) ≡ slice_index lower_digits h
digit_in_lane has i h inside below = rw (lt-leb 128 h (omega arith)) (has.at (i / 16) h (omega arith) below)

digits_in_lanes : {table : List ℕ} {n : ℕ} → HasDigits table n → (octets : List ℕ) (i : ℕ) → i + 2 * length octets ≤ 16 * n → Each1 (Fits w8) octets
    → swz_l w8 16 table i (halves octets) ≡ encode_lower octets
unfolding halves encode_with
digits_in_lanes has [] i inside fits = refl
digits_in_lanes has (x ∷ octets) i inside fits =
    rw (digit_in_lane has i (x / 16) (omega arith) (omega (arith, fits.0.fits)), digit_in_lane has (suc i) (bit_and x 15) (omega arith) (lower_below x), and_mask x 4)
    (ap (λ l. slice_index lower_digits (x / 16) ∷ slice_index lower_digits (x % 16) ∷ l) (digits_in_lanes has octets (suc (suc i)) (omega arith) fits.1))

has_four_times : HasDigits (four_times lower_digits) 4
has_four_times = record { at = place }

twice_place : (q h : ℕ) → q < 2 → h < 16 → get_or (lower_digits ++ lower_digits) (16 * q + h) 0 ≡ slice_index lower_digits h
twice_place zero h few below =
    let t = lower_digits in
    let at : 16 * 0 + h ≡ h = omega arith in
    ap (λ (k : ℕ). get_or (t ++ t) k 0) at ∙ get_or_append_left t t 0 h below
twice_place (suc zero) h few below =
    let t = lower_digits in
    let at : 16 * 1 + h ≡ 16 + h = omega arith in
    ap (λ (k : ℕ). get_or (t ++ t) k 0) at ∙ get_or-append-add t t h 0
twice_place (suc (suc q)) h few below = absurd (omega (arith, few))

has_twice : HasDigits (lower_digits ++ lower_digits) 2
has_twice = record { at = twice_place }

pub sixteen_ok : (octets : List ℕ) → length octets ≡ 16 → Each1 (Fits w8) octets → SwzOk w8 16 32 0 (sixteen_halves octets)
sixteen_ok octets long fits =
    subst (SwzOk w8 16 32 0) (sym (halves_of_sixteen octets long))
    (SwzOk-from_below w8 16 2 32 0 (halves octets) refl (omega (arith, length-halves octets, long)) (halves_below octets fits))

pub lanes_ok : (octets : List ℕ) → length octets ≡ 32 → Each1 (Fits w8) octets → SwzOk w8 16 64 0 (halves_in_lanes octets)
lanes_ok octets long fits =
    subst (SwzOk w8 16 64 0) (sym (halves_of_lanes octets long))
    (SwzOk-from_below w8 16 4 64 0 (halves octets) refl (omega (arith, length-halves octets, long)) (halves_below octets fits))

lanes_digits : (octets : List ℕ) → length octets ≡ 32 → Each1 (Fits w8) octets
    → swz_l w8 16 (four_times lower_digits) 0 (halves_in_lanes octets) ≡ encode_lower octets
lanes_digits octets long fits = ap (swz_l w8 16 (four_times lower_digits) 0) (halves_of_lanes octets long) ∙ digits_in_lanes has_four_times octets 0 (omega (arith, long)) fits

-- as vectors make that table
abbrev pub table_in_lanes : List ℕ → List ℕ
table_in_lanes t = pick_l 0 (t ++ t) (0 ∷ 1 ∷ 2 ∷ 3 ∷ 4 ∷ 5 ∷ 6 ∷ 7 ∷ 8 ∷ 9 ∷ 10 ∷ 11 ∷ 12 ∷ 13 ∷ 14 ∷ 15 ∷ 0 ∷ 1 ∷ 2 ∷ 3 ∷ 4 ∷ 5 ∷ 6 ∷ 7 ∷ 8 ∷ 9 ∷ 10 ∷ 11 ∷ 12 ∷ 13 ∷ 14 ∷ 15 ∷ 0 ∷ 1 ∷ 2 ∷ 3 ∷ 4 ∷ 5 ∷ 6 ∷ 7 ∷ 8 ∷ 9 ∷ 10 ∷ 11 ∷ 12 ∷ 13 ∷ 14 ∷ 15 ∷ 0 ∷ 1 ∷ 2 ∷ 3 ∷ 4 ∷ 5 ∷ 6 ∷ 7 ∷ 8 ∷ 9 ∷ 10 ∷ 11 ∷ 12 ∷ 13 ∷ 14 ∷ 15 ∷ [])

pub swz_table : (t octets : List ℕ) → t ≡ lower_digits → length octets ≡ 32 → Each1 (Fits w8) octets
    → swz_l w8 16 (table_in_lanes t) 0 (halves_in_lanes octets) ≡ encode_lower octets
swz_table t octets are long fits =
    let table : table_in_lanes lower_digits ≡ four_times lower_digits = refl in
    ap (λ d. swz_l w8 16 (table_in_lanes d) 0 (halves_in_lanes octets)) are
    ∙ ap (λ d. swz_l w8 16 d 0 (halves_in_lanes octets)) table ∙ lanes_digits octets long fits

abbrev pub table_of_sixteen : List ℕ → List ℕ
table_of_sixteen t = pick_l 0 (t ++ t) (0 ∷ 1 ∷ 2 ∷ 3 ∷ 4 ∷ 5 ∷ 6 ∷ 7 ∷ 8 ∷ 9 ∷ 10 ∷ 11 ∷ 12 ∷ 13 ∷ 14 ∷ 15 ∷ 0 ∷ 1 ∷ 2 ∷ 3 ∷ 4 ∷ 5 ∷ 6 ∷ 7 ∷ 8 ∷ 9 ∷ 10 ∷ 11 ∷ 12 ∷ 13 ∷ 14 ∷ 15 ∷ [])

pub swz_sixteen : (t octets : List ℕ) → t ≡ lower_digits → length octets ≡ 16 → Each1 (Fits w8) octets
    → swz_l w8 16 (table_of_sixteen t) 0 (sixteen_halves octets) ≡ encode_lower octets
swz_sixteen t octets are long fits =
    let table : table_of_sixteen lower_digits ≡ lower_digits ++ lower_digits = refl in
    ap (λ d. swz_l w8 16 (table_of_sixteen d) 0 (sixteen_halves octets)) are
    ∙ ap (λ d. swz_l w8 16 d 0 (sixteen_halves octets)) table
    ∙ ap (swz_l w8 16 (lower_digits ++ lower_digits) 0) (halves_of_sixteen octets long) ∙ digits_in_lanes has_twice octets 0 (omega (arith, long)) fits

-- the first eight digits of four octets and four more are those of the four
pub first_of_eight : (octets : List ℕ) → length octets ≡ 4
    → (let places : List ℕ = 0 ∷ 1 ∷ 2 ∷ 3 ∷ 4 ∷ 5 ∷ 6 ∷ 7 ∷ [] in
    let digits : List ℕ = encode_lower (pick_l 0 (octets ++ replicate 4 0) places) in
    pick_l 0 (digits ++ digits) places ≡ encode_lower octets)
unfolding encode_with
first_of_eight (a ∷ b ∷ c ∷ d ∷ []) long = refl
first_of_eight octets long = absurd (omega arith)

with_append : (t xs ys : List ℕ) → encode_with t (xs ++ ys) ≡ encode_with t xs ++ encode_with t ys
unfolding encode_with
with_append t [] ys = refl
with_append t (x ∷ xs) ys = ap (λ l. slice_index t (x / 16) ∷ slice_index t (x % 16) ∷ l) (with_append t xs ys)

pub encode_append : (xs ys : List ℕ) → encode_lower (xs ++ ys) ≡ encode_lower xs ++ encode_lower ys
encode_append xs ys = with_append lower_digits xs ys

pub encode_nil : encode_lower [] ≡ []
unfolding encode_with
encode_nil = refl

-- eight octets that have the sixteen digits
pub sixteen_digits : encode_lower (0x01 ∷ 0x23 ∷ 0x45 ∷ 0x67 ∷ 0x89 ∷ 0xab ∷ 0xcd ∷ 0xef ∷ []) ≡ lower_digits
unfolding encode_with
sixteen_digits = refl

-- a word as a number, and that number as octets again
pub octets_of_word : (word : List ℕ) (number : ℕ) → length word ≡ 4 → ((i : ℕ) → get_or word i 0 < 256) → number ≡ from_le_bytes w32 word
    → digits_l 256 4 (number_l (2 ^ 32) (number ∷ [])) ≡ word
octets_of_word (a ∷ b ∷ c ∷ d ∷ []) n long fits is =
    let af : a < 256 = fits 0 in
    let bf : b < 256 = fits 1 in
    let cf : c < 256 = fits 2 in
    let df : d < 256 = fits 3 in
    let sum : n + 2 ^ 32 * 0 ≡ a + 256 * b + 65536 * c + 16777216 * d = omega (arith, is) in
    let first : (n + 2 ^ 32 * 0) % 256 ≡ a = omega (arith, sum, af, bf, cf, df) in
    let second : (n + 2 ^ 32 * 0) / 256 % 256 ≡ b = omega (arith, sum, af, bf, cf, df) in
    let third : (n + 2 ^ 32 * 0) / 256 / 256 % 256 ≡ c = omega (arith, sum, af, bf, cf, df) in
    let fourth : (n + 2 ^ 32 * 0) / 256 / 256 / 256 % 256 ≡ d = omega (arith, sum, af, bf, cf, df) in
    rw (first, second, third, fourth) refl
octets_of_word word n long fits is = absurd (omega arith)

-- the text of the first octets
take-encode_lower : (k : ℕ) (xs : List ℕ) → take (2 * k) (encode_lower xs) ≡ encode_lower (take k xs)
unfolding encode_with
take-encode_lower zero xs = refl
take-encode_lower (suc k) [] = take-nil (2 * suc k)
take-encode_lower (suc k) (x ∷ xs) = let two : 2 * suc k ≡ suc (suc (2 * k)) = omega arith in rw (two, take-encode_lower k xs) refl

-- ---- octets that are put at a place of a buffer, block by block

-- a block of n of them
pub block_put : (octets buffer digits : List ℕ) (at from n : ℕ) → from + n ≤ length octets → at + 2 * (from + n) ≤ length buffer
    → digits ≡ encode_lower (take n (drop from octets)) → PutsBlock octets from n at buffer (put_chunk (at + 2 * from) buffer digits)
block_put octets buffer digits at from n inside room are = grind (arith, length-chunk, length-encode_with, length-put_chunk, take_more_put_chunk)

-- the first k of them are there, after what was there before
pub record ArePut (octets initial : List ℕ) (at k : ℕ) (buffer : List ℕ) : Type 0 where
  pub text : take (at + 2 * k) buffer ≡ take at initial ++ encode_lower (take k octets)
  pub long : length buffer ≡ length initial

pub none_put : (octets buffer : List ℕ) (at : ℕ) → ArePut octets buffer at 0 buffer
none_put octets buffer at = record { text = simp (add-zero, append-nil, encode_nil); long = refl }

-- a block of them, from one of these on, is put where it belongs
pub more_put : {octets initial before after : List ℕ} {at k from n : ℕ} (m : ℕ) → ArePut octets initial at k before → PutsBlock octets from n at before after
    → at ≤ length initial → from ≤ k → m ≡ from + n → ArePut octets initial at m after
more_put {octets} {initial} {before} {after} {at} {k} {from} {n} m so_far put inside some more =
    let start = take at initial in
    let seam = rw (length-take-le at initial inside) at (take-append-add start (encode_lower (take k octets)) (2 * from)) in
    let front : take (at + 2 * from) before ≡ start ++ encode_lower (take from octets) =
    rw (← take-take (at + 2 * from) (at + 2 * k) before (omega (arith, some)), so_far.text, seam) (simp (take-encode_lower, take-take)) in
    record { text = rw (more, put.text, front, take-add from n octets, encode_append) (simp append_assoc); long = put.long ∙ so_far.long }

pub all_put : {octets initial buffer : List ℕ} {at : ℕ} → ArePut octets initial at (length octets) buffer
    → take (at + 2 * length octets) buffer ≡ take at initial ++ encode_lower octets
all_put {octets} {initial} {buffer} {at} are = are.text ∙ ap (λ l. take at initial ++ encode_lower l) (take_all (length octets) octets (omega arith))
