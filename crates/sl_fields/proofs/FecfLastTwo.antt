-- Two numbers one after the other have the remainder of one number. The first is divided by the generator, or by its
-- square, or by the square of that.
use Rattle.std.proofs.Common.{◌≡◌, ℕ, zero, suc, ◌+◌, ◌*◌, ◌/◌, ◌%◌, ◌^◌, ◌<◌, ◌≤◌, List, [], ◌∷◌, ◌++◌, length, take, drop, get_or, refl, sym, ◌∙◌, ap, subst, arith, bit_xor, Fits, w8}
use Rattle.std.specs.Int.{w64, from_be_bytes}
use Rattle.std.specs.Simd.{first_chunks}
use Rattle.std.specs.Simd.Lanes.{Each1}
use Rattle.std.proofs.lemmas.List.{length-take, length-drop, take_all, take-append-drop}
use Rattle.std.proofs.lemmas.Nat.{xor_lt, xor_shr, shr-shr, shr_le, be_bytes_8}
use Rattle.std.proofs.lemmas.Simd.{Each1-chunk}
use Rattle.std.proofs.Math.Nat.{add-mul, pow-le-pow_right}
use Rattle.byteorder.specs.Endian.{big_bytes}
use Rattle.sl_fields.specs.FecfFolds.{part_of}
use Rattle.sl_fields.proofs.FecfParts.{left_over}
use Rattle.sl_fields.proofs.FecfRecurrence.{Recurs, powers, bits_recur}
use Rattle.sl_fields.proofs.FecfNumbers.{last_bits, number_part, div_none, part-xor, part-pair, part-moved, part-bytes, part-bytes_pair}
use Rattle.sl_fields.proofs.Xor.{xor_sums}

-- In these sums, a letter or a place stands for any number; `h4` is a number moved down by 4 units, and `q5` what the
-- quotient adds 5 units up, less `q11`, which is lost there.

xor_quotient : (h0 h4 h8 h11 h12 h15 : ℕ)
    → bit_xor (bit_xor (bit_xor (bit_xor h0 h4) (bit_xor h8 h12)) h11)
    (bit_xor (bit_xor (bit_xor (bit_xor h4 h8) (bit_xor h12 0)) h15) (bit_xor (bit_xor (bit_xor h11 h15) (bit_xor 0 0)) 0)) ≡ h0
xor_quotient h0 h4 h8 h11 h12 h15 = simp xor_sums

xor_left_over : (second q q5 q12 q16 q11 q4 : ℕ) → q16 ≡ bit_xor q12 (bit_xor q5 q)
    → bit_xor (bit_xor (bit_xor second q) (bit_xor q5 q11)) (bit_xor q12 q4) ≡ bit_xor (bit_xor q16 (bit_xor q4 q11)) second
xor_left_over second q q5 q12 q16 q11 q4 is = rw is (simp xor_sums)

-- A unit is a sixteenth of a number: 4, 2 or 1 bits.
module _ (u power : ℕ) (is : u ≡ 2 ^ power) where
  abbrev pub four_later : ℕ → ℕ
  four_later n = bit_xor n (n / 2 ^ (4 * u))

  -- the quotient of a number with sixteen units after it
  abbrev pub quotient : ℕ → ℕ
  quotient n = bit_xor (bit_xor (four_later n) (four_later n / 2 ^ (8 * u))) (n / 2 ^ (11 * u))

  -- what the division leaves of two numbers
  abbrev pub left : ℕ → ℕ → ℕ
  left first second =
      let q = quotient first in
      bit_xor (bit_xor (bit_xor second q) (q * 2 ^ (5 * u) % 2 ^ (16 * u))) (q * 2 ^ (12 * u) % 2 ^ (16 * u))

  none : (n k : ℕ) → n < 2 ^ (16 * u) → 16 * u ≤ k → n / 2 ^ k ≡ 0
  none n k below far =
      let more : 2 ^ (16 * u) ≤ 2 ^ k = pow-le-pow_right {n = 2} (omega arith) far in
      div_none n k (omega arith)

  -- the quotient, and itself 4 and 11 units later, is the number
  quotient-back : (n : ℕ) → n < 2 ^ (16 * u) → bit_xor (quotient n) (bit_xor (quotient n / 2 ^ (4 * u)) (quotient n / 2 ^ (11 * u))) ≡ n
  quotient-back n below =
      let h = λ (k : ℕ). n / 2 ^ (k * u) in
      let at : (i j k : ℕ) → i + j ≡ k → n / 2 ^ (i * u) / 2 ^ (j * u) ≡ h k = λ i j k e. shr-shr n (i * u) (j * u) ∙ ap (λ m. n / 2 ^ m) (sym (add-mul i j u) ∙ ap (λ m. m * u) e) in
      let q : quotient n ≡ bit_xor (bit_xor (bit_xor n (h 4)) (bit_xor (h 8) (h 12))) (h 11) =
      rw (xor_shr n (h 4) (8 * u), at 4 8 12 refl) refl in
      let q4 : quotient n / 2 ^ (4 * u) ≡ bit_xor (bit_xor (bit_xor (h 4) (h 8)) (bit_xor (h 12) 0)) (h 15) =
      rw (q, xor_shr (bit_xor (bit_xor n (h 4)) (bit_xor (h 8) (h 12))) (h 11) (4 * u), xor_shr (bit_xor n (h 4)) (bit_xor (h 8) (h 12)) (4 * u), xor_shr n (h 4) (4 * u), xor_shr (h 8) (h 12) (4 * u), at 4 4 8 refl, at 8 4 12 refl, at 12 4 16 refl, at 11 4 15 refl, none n (16 * u) below (omega arith)) refl in
      let q11 : quotient n / 2 ^ (11 * u) ≡ bit_xor (bit_xor (bit_xor (h 11) (h 15)) (bit_xor 0 0)) 0 =
      rw (q, xor_shr (bit_xor (bit_xor n (h 4)) (bit_xor (h 8) (h 12))) (h 11) (11 * u), xor_shr (bit_xor n (h 4)) (bit_xor (h 8) (h 12)) (11 * u), xor_shr n (h 4) (11 * u), xor_shr (h 8) (h 12) (11 * u), at 4 11 15 refl, at 8 11 19 refl, at 12 11 23 refl, at 11 11 22 refl, none n (19 * u) below (omega arith), none n (23 * u) below (omega arith), none n (22 * u) below (omega arith)) refl in
      rw (q4, q11, q) (xor_quotient n (h 4) (h 8) (h 11) (h 12) (h 15))

  quotient_below : (n : ℕ) → n < 2 ^ (16 * u) → quotient n < 2 ^ (16 * u)
  quotient_below n below =
      let down : (m k : ℕ) → m < 2 ^ (16 * u) → m / 2 ^ k < 2 ^ (16 * u) = λ m k h. omega (arith, shr_le m k) in
      let four = four_later n in
      let four_below = xor_lt (16 * u) n (n / 2 ^ (4 * u)) below (down n (4 * u) below) in
      xor_lt (16 * u) (bit_xor four (four / 2 ^ (8 * u))) (n / 2 ^ (11 * u)) (xor_lt (16 * u) four (four / 2 ^ (8 * u)) four_below (down four (8 * u) four_below)) (down n (11 * u) below)

  recurs : (later n : ℕ) → number_part (16 * u + later) (16 * u) n ≡ bit_xor (number_part (12 * u + later) (16 * u) n) (bit_xor (number_part (5 * u + later) (16 * u) n) (number_part later (16 * u) n))
  recurs later n =
      let bits = last_bits (16 * u) n in
      let base : Recurs 1 (λ k. left_over k bits) = record { law = bits_recur bits } in
      let same : 1 * 2 ^ power ≡ u = omega (arith, is) in
      (subst (λ k. Recurs k (λ k. left_over k bits)) same (powers power 1 (λ k. left_over k bits) base)).law later

  -- a number below, moved up by some units
  part-up : (later up down n : ℕ) → down + up ≡ 16 → n < 2 ^ (16 * u)
      → number_part later (16 * u) (n * 2 ^ (up * u) % 2 ^ (16 * u)) ≡ bit_xor (number_part (up * u + later) (16 * u) n) (number_part (16 * u + later) (16 * u) (n / 2 ^ (down * u)))
  part-up later up down n whole below =
      let places : down * u + up * u ≡ 16 * u = sym (add-mul down up u) ∙ ap (λ k. k * u) whole in
      subst (λ k. number_part later k (n * 2 ^ (up * u) % 2 ^ k) ≡ bit_xor (number_part (up * u + later) k n) (number_part (k + later) k (n / 2 ^ (down * u)))) places
      (part-moved later (up * u) (down * u) n (subst (λ k. n < 2 ^ k) (sym places) below))

  pub left-part : (later first second : ℕ) → first < 2 ^ (16 * u) → number_part later (16 * u) (left first second) ≡ left_over later (last_bits (16 * u) first ++ last_bits (16 * u) second)
  left-part later first second below =
      let few = quotient_below first below in
      let places = 16 * u in
      let part = number_part later places in
      let above = number_part (places + later) places in
      let q = quotient first in
      let q5 = q * 2 ^ (5 * u) % 2 ^ places in
      let q12 = q * 2 ^ (12 * u) % 2 ^ places in
      let sum : part (left first second) ≡ bit_xor (bit_xor (bit_xor (part second) (part q)) (bit_xor (number_part (5 * u + later) places q) (above (q / 2 ^ (11 * u))))) (bit_xor (number_part (12 * u + later) places q) (above (q / 2 ^ (4 * u)))) =
      rw (part-xor later places (bit_xor (bit_xor second q) q5) q12, part-xor later places (bit_xor second q) q5, part-xor later places second q, part-up later 5 11 q refl few, part-up later 12 4 q refl few) refl in
      let back : bit_xor (above q) (bit_xor (above (q / 2 ^ (4 * u))) (above (q / 2 ^ (11 * u)))) ≡ above first =
      sym (part-xor (places + later) places q (bit_xor (q / 2 ^ (4 * u)) (q / 2 ^ (11 * u))) ∙ ap (bit_xor (above q)) (part-xor (places + later) places (q / 2 ^ (4 * u)) (q / 2 ^ (11 * u))))
      ∙ ap above (quotient-back first below) in
      sum
      ∙ xor_left_over (part second) (part q) (number_part (5 * u + later) places q) (number_part (12 * u + later) places q) (above q) (above (q / 2 ^ (11 * u))) (above (q / 2 ^ (4 * u))) (recurs later q)
      ∙ ap (λ k. bit_xor k (part second)) back
      ∙ sym (part-pair later places places first second)

  -- the same on octets
  pub left-bytes : (count first second : ℕ) → 8 * count ≡ 16 * u → first < 2 ^ (16 * u) → part_of 0 (big_bytes count (left first second)) ≡ part_of 0 (big_bytes count first ++ big_bytes count second)
  left-bytes count first second long below =
      part-bytes count (left first second) ∙ ap (λ k. number_part 0 k (left first second)) long
      ∙ left-part 0 first second below
      ∙ sym (part-bytes_pair count first second ∙ ap (λ k. left_over 0 (last_bits k first ++ last_bits k second)) long)

-- ---- two numbers that were read from a slice

octets_below : (octets : List ℕ) → Each1 (Fits w8) octets → (i : ℕ) → get_or octets i 0 < 256
octets_below [] fit i = omega arith
octets_below (octet ∷ octets) fit zero = fit.0.fits
octets_below (octet ∷ octets) fit (suc i) = octets_below octets fit.1 i

-- their octets are the slice
pub read_words : (slice : List ℕ) (words : List (List ℕ)) (first second : ℕ) → length slice ≡ 16 → Each1 (Fits w8) slice → words ≡ first_chunks 8 (length slice / 8) slice
    → first ≡ from_be_bytes w64 (get_or words 0 []) → second ≡ from_be_bytes w64 (get_or words 1 []) → big_bytes 8 first ++ big_bytes 8 second ≡ slice
read_words slice words first second long fit are is_first is_second =
    let front = take 8 slice in
    let back = take 8 (drop 8 slice) in
    let count : length slice / 8 ≡ 2 = omega arith in
    let two : words ≡ first_chunks 8 2 slice = are ∙ ap (λ n. first_chunks 8 n slice) count in
    let long_front : length front ≡ 8 = omega (arith, length-take 8 slice) in
    let long_back : length back ≡ 8 = omega (arith, length-take 8 (drop 8 slice), length-drop 8 slice) in
    let first_back = be_bytes_8 front first long_front (octets_below front (Each1-chunk (Fits w8) 0 8 slice fit)) (is_first ∙ ap (λ all. from_be_bytes w64 (get_or all 0 [])) two) in
    let second_back = be_bytes_8 back second long_back (octets_below back (Each1-chunk (Fits w8) 8 8 slice fit)) (is_second ∙ ap (λ all. from_be_bytes w64 (get_or all 1 [])) two) in
    ap (λ l. l ++ big_bytes 8 second) first_back
    ∙ ap (λ l. front ++ l) (second_back ∙ take_all 8 (drop 8 slice) (omega (arith, length-drop 8 slice)))
    ∙ take-append-drop 8 slice
