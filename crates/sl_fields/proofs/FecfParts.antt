-- What octets of a message add to its remainder, where other octets come after them.
use Rattle.std.proofs.Common.{◌≡◌, ℕ, zero, suc, ◌+◌, ◌*◌, ◌/◌, ◌%◌, ◌^◌, ◌<◌, ◌==◌, Bool, false, List, [], ◌∷◌, ◌++◌, length, replicate, refl, sym, ◌∙◌, ap, arith, bit_xor, append-nil, append_assoc}
use Rattle.std.specs.Simd.Lanes.{zip2}
use Rattle.std.proofs.lemmas.List.{length-append, length-replicate, replicate-append-replicate}
use Rattle.std.proofs.lemmas.Nat.{xor_shr, xor_mod}
use Rattle.std.proofs.lemmas.Grind.{flat_map-append}
use Rattle.sl_fields.specs.Fecf.{octet_bits, bits_of, bits_number, plus_bit, plus_bits, fecf_of}
use Rattle.sl_fields.specs.FecfFolds.{part_of}
use Rattle.sl_fields.proofs.Division.{ran, zeros, ones, ran-append, length-ran, plus_bits-zeros, bits_number-plus, fecf_of-register, register_of-ran, fecf_of-append}
use Rattle.sl_fields.proofs.FecfSums.{plus_bits-false, plus_bits-append, ran-plus, ran-front}
use Rattle.sl_fields.proofs.FecfWordLemmas.{remainder-left_over}

-- ---- bits, and this many zeros after them

-- what is left over: the number that a register of zeros holds after the bits and `count` zeros
abbrev pub left_over : ℕ → List Bool → ℕ
left_over count bits = bits_number (ran zeros (bits ++ replicate count false))

pub left_over-nil : (count : ℕ) → left_over count [] ≡ 0
left_over-nil zero = refl
left_over-nil (suc count) = left_over-nil count

pub left_over-append : (count : ℕ) (xs ys : List Bool) → left_over count (xs ++ ys) ≡ bit_xor (left_over (length ys + count) xs) (left_over count ys)
left_over-append count xs ys =
    let rest = ys ++ replicate count false in
    let none = replicate (length rest) false in
    let word = ran zeros xs in
    let long : length word ≡ 16 = length-ran zeros xs refl in
    let whole : plus_bits word zeros ≡ word = ap (λ n. plus_bits word (replicate n false)) (sym long) ∙ plus_bits-zeros word in
    let many : length rest ≡ length ys + count = omega (arith, length-append ys (replicate count false), length-replicate count false) in
    ap (λ l. bits_number (ran zeros l)) (append_assoc xs ys (replicate count false))
    ∙ ap bits_number (ran-append zeros xs rest)
    ∙ ap (λ w. bits_number (ran w rest)) (sym whole)
    ∙ ap (λ l. bits_number (ran (plus_bits word zeros) l)) (sym (plus_bits-false (length rest) rest))
    ∙ ap bits_number (ran-plus word zeros none rest long refl (length-replicate (length rest) false))
    ∙ bits_number-plus (ran word none) (ran zeros rest) (length-ran word none long ∙ sym (length-ran zeros rest refl))
    ∙ ap (λ l. bit_xor (bits_number l) (left_over count ys)) (sym (ran-append zeros xs none))
    ∙ ap (λ n. bit_xor (left_over n xs) (left_over count ys)) many

pub left_over-plus : (count : ℕ) (xs ys : List Bool) → length xs ≡ length ys → left_over count (plus_bits xs ys) ≡ bit_xor (left_over count xs) (left_over count ys)
left_over-plus count xs ys e =
    let none = replicate count false in
    let same : length (xs ++ none) ≡ length (ys ++ none) = omega (arith, length-append xs none, length-append ys none) in
    ap (λ l. bits_number (ran zeros (plus_bits xs ys ++ l))) (sym (plus_bits-false count none))
    ∙ ap (λ l. bits_number (ran zeros l)) (sym (plus_bits-append xs ys none none e))
    ∙ ap bits_number (ran-plus zeros zeros (xs ++ none) (ys ++ none) refl refl same)
    ∙ bits_number-plus (ran zeros (xs ++ none)) (ran zeros (ys ++ none)) (length-ran zeros (xs ++ none) refl ∙ sym (length-ran zeros (ys ++ none) refl))

pub left_over-more : (first more : ℕ) (bits : List Bool) → left_over (first + more) bits ≡ left_over more (bits ++ replicate first false)
left_over-more first more bits =
    ap (λ l. bits_number (ran zeros (bits ++ l))) (sym (replicate-append-replicate first more false))
    ∙ ap (λ l. bits_number (ran zeros l)) (sym (append_assoc bits (replicate first false) (replicate more false)))

-- ---- octets

length-bits_of : (octets : List ℕ) → length (bits_of octets) ≡ 8 * length octets
length-bits_of [] = refl
length-bits_of (octet ∷ octets) = omega (arith, length-bits_of octets)

pub part-left_over : (later : ℕ) (octets : List ℕ) → part_of later octets ≡ left_over (8 * later) (bits_of octets)
unfolding part_of
part-left_over later octets = remainder-left_over (8 * later) (bits_of octets)

pub part-nil : (later : ℕ) → part_of later [] ≡ 0
part-nil later = part-left_over later [] ∙ left_over-nil (8 * later)

pub part-zero : (later : ℕ) (octets : List ℕ) → part_of later (0 ∷ octets) ≡ part_of later octets
part-zero later octets = part-left_over later (0 ∷ octets) ∙ sym (part-left_over later octets)

pub part-zeros : (later count : ℕ) (octets : List ℕ) → part_of later (replicate count 0 ++ octets) ≡ part_of later octets
part-zeros later zero octets = refl
part-zeros later (suc count) octets = part-zero later (replicate count 0 ++ octets) ∙ part-zeros later count octets

pub part-none : (later count : ℕ) → part_of later (replicate count 0) ≡ 0
part-none later zero = part-nil later
part-none later (suc count) = part-zero later (replicate count 0) ∙ part-none later count

pub part-append : (later : ℕ) (xs ys : List ℕ) → part_of later (xs ++ ys) ≡ bit_xor (part_of (length ys + later) xs) (part_of later ys)
part-append later xs ys =
    let count : length (bits_of ys) + 8 * later ≡ 8 * (length ys + later) = omega (arith, length-bits_of ys) in
    part-left_over later (xs ++ ys)
    ∙ ap (left_over (8 * later)) (flat_map-append octet_bits xs ys)
    ∙ left_over-append (8 * later) (bits_of xs) (bits_of ys)
    ∙ ap (λ n. bit_xor (left_over n (bits_of xs)) (left_over (8 * later) (bits_of ys))) count
    ∙ ap (λ n. bit_xor n (left_over (8 * later) (bits_of ys))) (sym (part-left_over (length ys + later) xs))
    ∙ ap (bit_xor (part_of (length ys + later) xs)) (sym (part-left_over later ys))

-- sums of octets

parity : (a b : ℕ) → a < 2 → b < 2 → (bit_xor a b == 1) ≡ plus_bit (a == 1) (b == 1)
parity zero zero e f = refl
parity zero (suc zero) e f = refl
parity (suc zero) zero e f = refl
parity (suc zero) (suc zero) e f = refl
parity (suc (suc a)) b e f = absurd (omega arith)
parity a (suc (suc b)) e f = absurd (omega arith)

last_bit : (a b : ℕ) → (bit_xor a b % 2 == 1) ≡ plus_bit (a % 2 == 1) (b % 2 == 1)
last_bit a b = ap (λ n. n == 1) (xor_mod a b 1) ∙ parity (a % 2) (b % 2) (omega arith) (omega arith)

pub bit_at : (place a b : ℕ) → (bit_xor a b / 2 ^ place % 2 == 1) ≡ plus_bit (a / 2 ^ place % 2 == 1) (b / 2 ^ place % 2 == 1)
bit_at place a b = ap (λ n. n % 2 == 1) (xor_shr a b place) ∙ last_bit (a / 2 ^ place) (b / 2 ^ place)

octet_bits-xor : (a b : ℕ) → octet_bits (bit_xor a b) ≡ plus_bits (octet_bits a) (octet_bits b)
octet_bits-xor a b =
    rw (bit_at 7 a b, bit_at 6 a b, bit_at 5 a b, bit_at 4 a b, bit_at 3 a b, bit_at 2 a b, bit_at 1 a b, last_bit a b) refl

bits_of-plus : (xs ys : List ℕ) → length xs ≡ length ys → bits_of (zip2 bit_xor xs ys) ≡ plus_bits (bits_of xs) (bits_of ys)
bits_of-plus [] [] e = refl
bits_of-plus [] (y ∷ ys) e = absurd (omega arith)
bits_of-plus (x ∷ xs) [] e = absurd (omega arith)
bits_of-plus (x ∷ xs) (y ∷ ys) e =
    ap (λ l. l ++ bits_of (zip2 bit_xor xs ys)) (octet_bits-xor x y)
    ∙ ap (λ l. plus_bits (octet_bits x) (octet_bits y) ++ l) (bits_of-plus xs ys (omega arith))
    ∙ sym (plus_bits-append (octet_bits x) (octet_bits y) (bits_of xs) (bits_of ys) refl)

pub part-plus : (later : ℕ) (xs ys : List ℕ) → length xs ≡ length ys → part_of later (zip2 bit_xor xs ys) ≡ bit_xor (part_of later xs) (part_of later ys)
part-plus later xs ys e =
    let same : length (bits_of xs) ≡ length (bits_of ys) = omega (arith, length-bits_of xs, length-bits_of ys) in
    part-left_over later (zip2 bit_xor xs ys)
    ∙ ap (left_over (8 * later)) (bits_of-plus xs ys e)
    ∙ left_over-plus (8 * later) (bits_of xs) (bits_of ys) same
    ∙ ap (λ n. bit_xor n (left_over (8 * later) (bits_of ys))) (sym (part-left_over later xs))
    ∙ ap (bit_xor (part_of later xs)) (sym (part-left_over later ys))

-- ---- the field

-- 84 CF turn a register of zeros into the preset
pub preset_by_84_CF : (octets : List ℕ) → fecf_of octets ≡ part_of 0 (0x84 ∷ (0xCF ∷ octets))
preset_by_84_CF octets =
    fecf_of-register octets
    ∙ register_of-ran (bits_of octets)
    ∙ ap (λ bits. bits_number (ran ones bits)) (sym (append-nil (bits_of octets)))
    ∙ sym (part-left_over 0 (0x84 ∷ (0xCF ∷ octets)))

-- the preset inverts the first two octets
pub preset_by_inverses : (a b : ℕ) (octets : List ℕ) → fecf_of (a ∷ (b ∷ octets)) ≡ part_of 0 (bit_xor 0xFF a ∷ (bit_xor 0xFF b ∷ octets))
preset_by_inverses a b octets =
    let two = bits_of (a ∷ (b ∷ [])) in
    let inverted = bits_of (bit_xor 0xFF a ∷ (bit_xor 0xFF b ∷ [])) in
    let is : inverted ≡ plus_bits ones two =
    ap (λ l. l ++ octet_bits (bit_xor 0xFF b)) (octet_bits-xor 0xFF a) ∙ ap (λ l. plus_bits (octet_bits 0xFF) (octet_bits a) ++ l) (octet_bits-xor 0xFF b) in
    let word : ran ones two ≡ ran zeros inverted =
    ran-front ones [] two refl refl ∙ plus_bits-false 16 (ran zeros (plus_bits ones two)) ∙ ap (ran zeros) (sym is) in
    fecf_of-append (a ∷ (b ∷ [])) octets
    ∙ ap (λ register. bits_number (ran register (bits_of octets))) word
    ∙ ap bits_number (sym (ran-append zeros inverted (bits_of octets)))
    ∙ ap (λ bits. bits_number (ran zeros bits)) (sym (append-nil (inverted ++ bits_of octets)))
    ∙ sym (part-left_over 0 (bit_xor 0xFF a ∷ (bit_xor 0xFF b ∷ octets)))

-- FF FF turn the preset into a register of zeros
pub zeros_by_FF_FF : (octets : List ℕ) → fecf_of (0xFF ∷ (0xFF ∷ octets)) ≡ part_of 0 octets
zeros_by_FF_FF octets =
    fecf_of-append (0xFF ∷ (0xFF ∷ [])) octets
    ∙ ap (λ bits. bits_number (ran zeros bits)) (sym (append-nil (bits_of octets)))
    ∙ sym (part-left_over 0 octets)
