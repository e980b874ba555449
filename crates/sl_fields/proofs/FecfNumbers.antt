-- Octets of a message as the bits of one number.
use Rattle.std.proofs.Common.{◌≡◌, ℕ, zero, suc, ◌+◌, ◌*◌, ◌/◌, ◌%◌, ◌^◌, ◌<◌, ◌==◌, Bool, false, List, [], ◌∷◌, ◌++◌, length, replicate, refl, sym, ◌∙◌, ap, subst, arith, bit_xor, add-zero}
use Rattle.std.specs.Int.{byte_at}
use Rattle.std.proofs.lemmas.Nat.{xor_comm, shr-shr, shl-shr, shr_le, shr_below, field_of, mod_low, mod-pow-add, pow_pos}
use Rattle.std.proofs.lemmas.Grind.{flat_map-append}
use Rattle.byteorder.specs.Endian.{big_bytes}
use Rattle.byteorder.proofs.Bytes.{pow256}
use Rattle.sl_fields.specs.Fecf.{octet_bits, bits_of, plus_bits}
use Rattle.sl_fields.specs.FecfFolds.{part_of}
use Rattle.sl_fields.proofs.FecfParts.{left_over, left_over-append, left_over-plus, left_over-more, part-left_over, bit_at}
use Rattle.sl_fields.proofs.Xor.{xor_moved}

-- ---- the last bits of a number

-- the last bits of a number, this many, the most significant first
abbrev pub last_bits : ℕ → ℕ → List Bool
last_bits zero n = []
last_bits (suc places) n = (n / 2 ^ places % 2 == 1) ∷ last_bits places n

pub length-last_bits : (places n : ℕ) → length (last_bits places n) ≡ places
length-last_bits zero n = refl
length-last_bits (suc places) n = ap suc (length-last_bits places n)

pub last_bits-none : (places : ℕ) → last_bits places 0 ≡ replicate places false
last_bits-none zero = refl
last_bits-none (suc places) =
    let none : 0 / 2 ^ places ≡ 0 = omega (arith, shr_le 0 places) in
    rw (none, last_bits-none places) refl

-- a number below a power of two
pub div_none : (n places : ℕ) → n < 2 ^ places → n / 2 ^ places ≡ 0
div_none n places below =
    let few : n / 2 ^ places < 2 ^ 0 = shr_below n 0 places (subst (λ k. n < 2 ^ k) (omega arith) below) in
    let one : 2 ^ 0 ≡ 1 = refl in
    omega arith

-- of a sum
pub last_bits-xor : (places a b : ℕ) → last_bits places (bit_xor a b) ≡ plus_bits (last_bits places a) (last_bits places b)
last_bits-xor zero a b = refl
last_bits-xor (suc places) a b = rw (bit_at places a b, last_bits-xor places a b) refl

-- those before the last `second` bits, and these
pub last_bits-split : (first second n : ℕ) → last_bits (first + second) n ≡ last_bits first (n / 2 ^ second) ++ last_bits second n
last_bits-split zero second n = ap (λ k. last_bits k n) (omega arith)
last_bits-split (suc first) second n =
    let next : suc first + second ≡ suc (first + second) = omega arith in
    let same : n / 2 ^ second / 2 ^ first ≡ n / 2 ^ (first + second) = shr-shr n second first ∙ ap (λ k. n / 2 ^ k) (omega arith) in
    rw (next, same, last_bits-split first second n) refl

even_mod : (n more : ℕ) → n % 2 ^ suc more % 2 ≡ n % 2
even_mod n more =
    let split : n % 2 ^ suc more ≡ (n / 2 % 2 ^ more) * 2 + n % 2 = ap (λ k. n % 2 ^ k) (omega arith) ∙ mod-pow-add n more 1 in
    ap (λ k. k % 2) split ∙ mod_low (n / 2 % 2 ^ more) 1 (n % 2) (omega arith)

-- what is above them doesn't matter
last_bits-cut : (places more n : ℕ) → last_bits places (n % 2 ^ (places + more)) ≡ last_bits places n
last_bits-cut zero more n = refl
last_bits-cut (suc places) more n =
    let moved : suc places + more ≡ suc more + places = omega arith in
    let next : suc places + more ≡ places + suc more = omega arith in
    let bits : n % 2 ^ (suc places + more) / 2 ^ places ≡ n / 2 ^ places % 2 ^ suc more = ap (λ k. n % 2 ^ k / 2 ^ places) moved ∙ field_of n (suc more) places in
    let bit : n % 2 ^ (suc places + more) / 2 ^ places % 2 ≡ n / 2 ^ places % 2 = ap (λ k. k % 2) bits ∙ even_mod (n / 2 ^ places) more in
    let rest : last_bits places (n % 2 ^ (suc places + more)) ≡ last_bits places n = ap (λ k. last_bits places (n % 2 ^ k)) next ∙ last_bits-cut places (suc more) n in
    rw (bit, rest) refl

pub last_bits-mod : (places n : ℕ) → last_bits places (n % 2 ^ places) ≡ last_bits places n
last_bits-mod places n = ap (λ k. last_bits places (n % 2 ^ k)) (sym (add-zero places)) ∙ last_bits-cut places 0 n

-- those of a number that is moved up
pub last_bits-moved : (places n : ℕ) → last_bits places (n * 2 ^ places) ≡ replicate places false
last_bits-moved places n =
    let whole : n * 2 ^ places % 2 ^ places ≡ 0 = ap (λ k. k % 2 ^ places) (sym (add-zero (n * 2 ^ places))) ∙ mod_low n places 0 (pow_pos places) in
    sym (last_bits-mod places (n * 2 ^ places)) ∙ ap (last_bits places) whole ∙ last_bits-none places

-- ---- octets

bits-octet : (n : ℕ) → octet_bits (n % 256) ≡ last_bits 8 n
bits-octet n =
    let last : n % 256 ≡ n % 256 / 2 ^ 0 = omega arith in
    ap (λ k. (n % 256 / 128 % 2 == 1) ∷ ((n % 256 / 64 % 2 == 1) ∷ ((n % 256 / 32 % 2 == 1) ∷ ((n % 256 / 16 % 2 == 1) ∷ ((n % 256 / 8 % 2 == 1) ∷ ((n % 256 / 4 % 2 == 1) ∷ ((n % 256 / 2 % 2 == 1) ∷ ((k % 2 == 1) ∷ [])))))))) last
    ∙ last_bits-mod 8 n

byte_at-pow : (place n : ℕ) → byte_at place n ≡ n / 2 ^ (8 * place) % 256
byte_at-pow zero n = omega arith
byte_at-pow (suc place) n = ap (λ k. n / k % 256) (pow256 (suc place))

bits_of-bytes : (count n : ℕ) → bits_of (big_bytes count n) ≡ last_bits (8 * count) n
bits_of-bytes zero n = refl
bits_of-bytes (suc count) n =
    let more : 8 + 8 * count ≡ 8 * suc count = omega arith in
    ap (λ k. octet_bits k ++ bits_of (big_bytes count n)) (byte_at-pow count n)
    ∙ ap (λ l. l ++ bits_of (big_bytes count n)) (bits-octet (n / 2 ^ (8 * count)))
    ∙ ap (λ l. last_bits 8 (n / 2 ^ (8 * count)) ++ l) (bits_of-bytes count n)
    ∙ sym (last_bits-split 8 (8 * count) n) ∙ ap (λ k. last_bits k n) more

-- ---- the part of a number

-- the part of the last bits of a number, where `later` more bits come after them
abbrev pub number_part : ℕ → ℕ → ℕ → ℕ
number_part later places n = left_over later (last_bits places n)

pub part-xor : (later places a b : ℕ) → number_part later places (bit_xor a b) ≡ bit_xor (number_part later places a) (number_part later places b)
part-xor later places a b =
    ap (left_over later) (last_bits-xor places a b)
    ∙ left_over-plus later (last_bits places a) (last_bits places b) (length-last_bits places a ∙ sym (length-last_bits places b))

-- two numbers, one after the other
pub part-pair : (later first places a b : ℕ) → left_over later (last_bits first a ++ last_bits places b) ≡ bit_xor (number_part (places + later) first a) (number_part later places b)
part-pair later first places a b =
    left_over-append later (last_bits first a) (last_bits places b)
    ∙ ap (λ k. bit_xor (left_over (k + later) (last_bits first a)) (number_part later places b)) (length-last_bits places b)

left_over-zeros : (later count : ℕ) (bits : List Bool) → left_over later (replicate count false ++ bits) ≡ left_over later bits
left_over-zeros later zero bits = refl
left_over-zeros later (suc count) bits = left_over-zeros later count bits

-- more places, of which the first have zeros
part-wider : (later more places n : ℕ) → n < 2 ^ places → number_part later (more + places) n ≡ number_part later places n
part-wider later more places n below =
    let none : n / 2 ^ places ≡ 0 = div_none n places below in
    ap (left_over later) (last_bits-split more places n ∙ ap (λ k. last_bits more k ++ last_bits places n) none ∙ ap (λ l. l ++ last_bits places n) (last_bits-none more))
    ∙ left_over-zeros later more (last_bits places n)

-- A number that is moved up counts as with more bits after it, less the bits that are lost.
pub part-moved : (later up rest n : ℕ) → n < 2 ^ (rest + up)
    → number_part later (rest + up) (n * 2 ^ up % 2 ^ (rest + up)) ≡ bit_xor (number_part (up + later) (rest + up) n) (number_part ((rest + up) + later) (rest + up) (n / 2 ^ rest))
part-moved later up rest n below =
    let places = rest + up in
    let whole = n * 2 ^ up in
    let behind : places ≡ up + rest = omega arith in
    let turned : up + places ≡ places + up = omega arith in
    let lost : whole / 2 ^ places ≡ n / 2 ^ rest =
    ap (λ k. whole / 2 ^ k) behind ∙ sym (shr-shr whole up rest) ∙ ap (λ k. k / 2 ^ rest) (shl-shr n up) in
    let few : n / 2 ^ rest < 2 ^ up = shr_below n up rest (subst (λ k. n < 2 ^ k) behind below) in
    let one : left_over later (last_bits (up + places) whole) ≡ bit_xor (number_part (places + later) up (n / 2 ^ rest)) (number_part later places whole) =
    ap (left_over later) (last_bits-split up places whole) ∙ part-pair later up places (whole / 2 ^ places) whole
    ∙ ap (λ k. bit_xor (number_part (places + later) up k) (number_part later places whole)) lost in
    let other : left_over later (last_bits (up + places) whole) ≡ number_part (up + later) places n =
    ap (λ k. left_over later (last_bits k whole)) turned
    ∙ ap (left_over later) (last_bits-split places up whole ∙ ap (λ k. last_bits places k ++ last_bits up whole) (shl-shr n up) ∙ ap (λ l. last_bits places n ++ l) (last_bits-moved up n))
    ∙ sym (left_over-more up later (last_bits places n)) in
    let wide : number_part (places + later) places (n / 2 ^ rest) ≡ number_part (places + later) up (n / 2 ^ rest) = part-wider (places + later) rest up (n / 2 ^ rest) few in
    let a = number_part (up + later) places n in
    let b = number_part (places + later) up (n / 2 ^ rest) in
    let c = number_part later places whole in
    ap (left_over later) (last_bits-mod places whole)
    ∙ xor_moved a c b (sym other ∙ one ∙ xor_comm b c) ∙ ap (bit_xor a) (sym wide)

-- ---- the part of a number's octets

pub part-bytes : (count n : ℕ) → part_of 0 (big_bytes count n) ≡ number_part 0 (8 * count) n
part-bytes count n = part-left_over 0 (big_bytes count n) ∙ ap (left_over 0) (bits_of-bytes count n)

-- of two numbers, one after the other
pub part-bytes_pair : (count a b : ℕ) → part_of 0 (big_bytes count a ++ big_bytes count b) ≡ left_over 0 (last_bits (8 * count) a ++ last_bits (8 * count) b)
part-bytes_pair count a b =
    part-left_over 0 (big_bytes count a ++ big_bytes count b)
    ∙ ap (left_over 0) (flat_map-append octet_bits (big_bytes count a) (big_bytes count b)
    ∙ ap (λ l. l ++ bits_of (big_bytes count b)) (bits_of-bytes count a)
    ∙ ap (λ l. last_bits (8 * count) a ++ l) (bits_of-bytes count b))

-- a number as its two halves, `places` bits each
pub part-cut_bytes : (count places n : ℕ) → 8 * count ≡ places → part_of 0 (big_bytes count (n / 2 ^ places) ++ big_bytes count (n % 2 ^ places)) ≡ part_of 0 (big_bytes (2 * count) n)
part-cut_bytes count places n is =
    let both : places + places ≡ 8 * (2 * count) = omega arith in
    part-bytes_pair count (n / 2 ^ places) (n % 2 ^ places)
    ∙ ap (λ k. left_over 0 (last_bits k (n / 2 ^ places) ++ last_bits k (n % 2 ^ places))) is
    ∙ ap (λ l. left_over 0 (last_bits places (n / 2 ^ places) ++ l)) (last_bits-mod places n)
    ∙ ap (left_over 0) (sym (last_bits-split places places n) ∙ ap (λ k. last_bits k n) both)
    ∙ sym (part-bytes (2 * count) n)
