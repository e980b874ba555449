-- The words of octets as numbers, and the register after one more octet.
use Rattle.std.proofs.Common.{◌≡◌, ℕ, ◌+◌, ◌-◌, ◌*◌, ◌^◌, ◌<◌, Bool, true, false, List, [], ◌∷◌, ◌++◌, length, take, drop, map, get_or, replicate, refl, sym, ◌∙◌, ap, arith, bit_xor, append_assoc, add-zero}
use Rattle.std.specs.List.{range_with_len}
use Rattle.std.proofs.lemmas.List.{length-append, length-take, length-drop, length-replicate, take-append-drop, replicate-append-replicate, get_or-map}
use Rattle.std.proofs.lemmas.List.FromFn.{get_or-range_with_len, get_or-map-range_with_len}
use Rattle.std.proofs.lemmas.Nat.{xor_block, same_from_place, pow-add}
use Rattle.std.proofs.Math.Nat.{mul_assoc}
use Rattle.sl_fields.specs.Field.{bit_of, number_of}
use Rattle.sl_fields.specs.Fecf.{octet_bits, bits_of, bits_number, plus_bits, divided, remainder, fecf_of}
use Rattle.sl_fields.specs.FecfFolds.{part_of}
use Rattle.sl_fields.specs.FecfWords.{word_of, AreWords}
use Rattle.sl_fields.specs.declared.words.TheConstants.{WORDS}
use Rattle.sl_fields.proofs.Division.{ran, zeros, ones, length-plus_bits, length-ran, divided-ran, bits_number-lt, bits_number-plus, register_of-ran, fecf_of-register, fecf_of-append}
use Rattle.sl_fields.proofs.FecfSums.{plus_bits-false, ran-front}

-- numbers of bits

pub bits_number-append : (vs ws : List Bool) → bits_number (vs ++ ws) ≡ bits_number vs * 2 ^ length ws + bits_number ws
bits_number-append [] ws = omega arith
bits_number-append (v ∷ vs) ws =
    let split : 2 ^ length (vs ++ ws) ≡ 2 ^ length vs * 2 ^ length ws = ap (λ n. 2 ^ n) (length-append vs ws) ∙ pow-add 2 (length vs) (length ws) in
    rw (split, bits_number-append vs ws) (omega (arith, mul_assoc (bit_of v) (2 ^ length vs) (2 ^ length ws)))

bit_of_injective : (v w : Bool) → bit_of v ≡ bit_of w → v ≡ w
bit_of_injective false false e = refl
bit_of_injective false true e = absurd (omega arith)
bit_of_injective true false e = absurd (omega arith)
bit_of_injective true true e = refl

pub bits_number_injective : (vs ws : List Bool) → length vs ≡ length ws → bits_number vs ≡ bits_number ws → vs ≡ ws
bits_number_injective [] [] e n = refl
bits_number_injective [] (w ∷ ws) e n = absurd (omega arith)
bits_number_injective (v ∷ vs) [] e n = absurd (omega arith)
bits_number_injective (v ∷ vs) (w ∷ ws) e n =
    let same : length vs ≡ length ws = omega arith in
    let below : bits_number ws < 2 ^ length vs = rw same (bits_number-lt ws) in
    let digits = same_from_place (bit_of v) (bits_number vs) (bit_of w) (bits_number ws) (2 ^ length vs) (bits_number-lt vs) below (n ∙ ap (λ k. bit_of w * 2 ^ k + bits_number ws) (sym same)) in
    let first = bit_of_injective v w digits.0 in
    let rest = bits_number_injective vs ws same digits.1 in
    cc

-- an octet and its bits

all_octets : map (λ n. bits_number (octet_bits n)) (range_with_len 0 256) ≡ range_with_len 0 256
all_octets = refl

pub bits_number-octet : (octet : ℕ) → octet < 256 → bits_number (octet_bits octet) ≡ octet
bits_number-octet octet h =
    sym (get_or-map-range_with_len (λ n. bits_number (octet_bits n)) 0 256 octet octet 0 h (omega arith))
    ∙ ap (λ all. get_or all octet 0) all_octets ∙ get_or-range_with_len 0 256 octet 0 h ∙ omega arith

octet_bits-number : (bits : List Bool) → length bits ≡ 8 → octet_bits (bits_number bits) ≡ bits
octet_bits-number bits e =
    let below : bits_number bits < 256 = rw (ap (λ k. 2 ^ k) e) at (bits_number-lt bits) in
    bits_number_injective (octet_bits (bits_number bits)) bits (sym e) (bits_number-octet (bits_number bits) below)

-- the bits of the sum of two numbers
pub octet_bits-plus : (bits : List Bool) (octet : ℕ) → length bits ≡ 8 → octet < 256 → octet_bits (bit_xor (bits_number bits) octet) ≡ plus_bits bits (octet_bits octet)
octet_bits-plus bits octet e h =
    let both = plus_bits bits (octet_bits octet) in
    let number : bits_number both ≡ bit_xor (bits_number bits) octet = bits_number-plus bits (octet_bits octet) e ∙ ap (bit_xor (bits_number bits)) (bits_number-octet octet h) in
    ap octet_bits (sym number) ∙ octet_bits-number both (length-plus_bits bits (octet_bits octet))

-- words

-- bits with zeros after them, divided without preset: what a register of zeros holds after them
pub remainder-left_over : (count : ℕ) (message : List Bool) → bits_number (remainder (message ++ replicate (count + 16) false)) ≡ bits_number (ran zeros (message ++ replicate count false))
remainder-left_over count message =
    let bits = message ++ replicate count false in
    let whole : message ++ replicate (count + 16) false ≡ bits ++ zeros = ap (λ rest. message ++ rest) (sym (replicate-append-replicate count 16 false)) ∙ sym (append_assoc message (replicate count false) zeros) in
    let steps : length (bits ++ zeros) - 16 ≡ length bits = omega (arith, length-append bits zeros) in
    ap (λ l. bits_number (remainder l)) whole
    ∙ ap (λ n. bits_number (divided n (bits ++ zeros))) steps
    ∙ ap (λ l. bits_number (divided (length bits) l)) (sym (plus_bits-false 16 (bits ++ zeros)))
    ∙ ap bits_number (divided-ran zeros bits refl)

word_of-ran : (octet : ℕ) → word_of 0 octet ≡ bits_number (ran zeros (octet_bits octet))
unfolding part_of
word_of-ran octet = remainder-left_over 0 (octet_bits octet)

-- the table has the words: computed
pub are_words : AreWords WORDS
unfolding part_of
are_words = refl

-- the table's word at an octet
pub word_at : (octet : ℕ) → octet < 256 → number_of (get_or WORDS octet []) ≡ word_of 0 octet
word_at octet h =
    sym (get_or-map number_of WORDS octet [] 0 h)
    ∙ ap (λ all. get_or all octet 0) are_words
    ∙ get_or-map-range_with_len (word_of 0) 0 256 octet octet 0 h (omega arith)

-- the register

-- the bits of the register's two octets
pub record IsHalved (before : List ℕ) (high low : ℕ) : Type 0 where
  pub front : List Bool
  pub rest : List Bool
  pub front_long : length front ≡ 8
  pub rest_long : length rest ≡ 8
  pub whole : ran ones (bits_of before) ≡ front ++ rest
  pub front_number : bits_number front ≡ high
  pub rest_number : bits_number rest ≡ low

pub register-halved : (before : List ℕ) (high low : ℕ) → low < 256 → high * 256 + low ≡ fecf_of before → IsHalved before high low
register-halved before high low low_fits register =
    let bits = ran ones (bits_of before) in
    let long : length bits ≡ 16 = length-ran ones (bits_of before) refl in
    let front = take 8 bits in
    let rest = drop 8 bits in
    let f : length rest ≡ 8 = omega (arith, length-drop 8 bits) in
    let below : bits_number rest < 256 = rw (ap (λ k. 2 ^ k) f) at (bits_number-lt rest) in
    let whole : high * 256 + low ≡ bits_number front * 256 + bits_number rest = register ∙ fecf_of-register before ∙ register_of-ran (bits_of before) ∙ ap bits_number (sym (take-append-drop 8 bits)) ∙ bits_number-append front rest ∙ ap (λ n. bits_number front * 2 ^ n + bits_number rest) f in
    let parts = same_from_place high low (bits_number front) (bits_number rest) 256 low_fits below whole in
    record {
      front = front;
      rest = rest;
      front_long = omega (arith, length-take 8 bits);
      rest_long = f;
      whole = sym (take-append-drop 8 bits);
      front_number = sym parts.0;
      rest_number = sym parts.1;
    }

-- The register after an octet: the register is moved up by one octet, and the word of its first octet plus the
-- message's octet is added.

pub ran-octet : (front rest : List Bool) (octet : ℕ) → length front ≡ 8 → length rest ≡ 8 → octet < 256 → bits_number (ran (front ++ rest) (octet_bits octet)) ≡ bit_xor (bits_number rest * 256) (word_of 0 (bit_xor (bits_number front) octet))
ran-octet front rest octet e f h =
    let both = plus_bits front (octet_bits octet) in
    let long : length (front ++ rest) ≡ 16 = omega (arith, length-append front rest) in
    let moved = rest ++ replicate (length front) false in
    let sixteen : length moved ≡ 16 = omega (arith, length-append rest (replicate (length front) false), length-replicate (length front) false) in
    let added : bits_number (ran zeros both) ≡ word_of 0 (bit_xor (bits_number front) octet) = ap (λ l. bits_number (ran zeros l)) (sym (octet_bits-plus front octet e h)) ∙ sym (word_of-ran (bit_xor (bits_number front) octet)) in
    let up : bits_number moved ≡ bits_number rest * 256 = ap (λ n. bits_number (rest ++ replicate n false)) e ∙ bits_number-append rest (replicate 8 false) ∙ omega arith in
    ap bits_number (ran-front front rest (octet_bits octet) long e)
    ∙ bits_number-plus moved (ran zeros both) (sixteen ∙ sym (length-ran zeros both refl))
    ∙ ap (λ n. bit_xor n (bits_number (ran zeros both))) up
    ∙ ap (bit_xor (bits_number rest * 256)) added

pub register-octet : (before : List ℕ) (high low octet top bottom : ℕ) → low < 256 → octet < 256 → bottom < 256 → high * 256 + low ≡ fecf_of before → top * 256 + bottom ≡ word_of 0 (bit_xor high octet) → bit_xor low top * 256 + bottom ≡ fecf_of (before ++ octet ∷ [])
register-octet before high low octet top bottom low_fits octet_fits bottom_fits register word =
    let halved = register-halved before high low low_fits register in
    let front = halved.front in
    let rest = halved.rest in
    let block : bit_xor (low * 256 + 0) (top * 256 + bottom) ≡ bit_xor low top * 256 + bit_xor 0 bottom = xor_block 8 low top 0 bottom (omega arith) bottom_fits in
    let step : bits_number (ran (ran ones (bits_of before)) (octet_bits octet)) ≡ bit_xor (low * 256) (top * 256 + bottom) =
    ap (λ l. bits_number (ran l (octet_bits octet))) halved.whole
    ∙ ran-octet front rest octet halved.front_long halved.rest_long octet_fits
    ∙ ap (λ n. bit_xor (bits_number rest * 256) (word_of 0 (bit_xor n octet))) halved.front_number
    ∙ ap (λ n. bit_xor (n * 256) (word_of 0 (bit_xor high octet))) halved.rest_number
    ∙ ap (bit_xor (low * 256)) (sym word) in
    sym block ∙ ap (λ n. bit_xor n (top * 256 + bottom)) (add-zero (low * 256)) ∙ sym (fecf_of-append before (octet ∷ []) ∙ step)

-- the number of two octets
pub number_of-two : (octets : List ℕ) → length octets ≡ 2 → number_of octets ≡ get_or octets 0 0 * 256 + get_or octets 1 0
number_of-two [] e = absurd (omega arith)
number_of-two (x ∷ []) e = absurd (omega arith)
number_of-two (x ∷ (y ∷ [])) e = omega arith
number_of-two (x ∷ (y ∷ (z ∷ octets))) e = absurd (omega arith)
