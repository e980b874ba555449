-- The register of the long division: its bits after bits of a message, and the numbers of these bits.
use Rattle.std.proofs.Common.{◌≡◌, ℕ, zero, suc, ◌+◌, ◌-◌, ◌^◌, ◌<◌, ◌≤◌, Bool, true, false, not, List, [], ◌∷◌, ◌++◌, length, take, drop, map, replicate, refl, sym, ◌∙◌, ap, arith, bit_xor}
use Rattle.std.proofs.lemmas.List.{length-append}
use Rattle.std.proofs.lemmas.Nat.{xor_block}
use Rattle.std.proofs.Math.Nat.{pow-suc}
use Rattle.std.proofs.lemmas.Grind.{flat_map-append}
use Rattle.sl_fields.specs.Field.{bit_of}
use Rattle.sl_fields.specs.Fecf.{bits_number, plus_bit, plus_bits, generator, divided, remainder, preset, register_of, fecf_of, octet_bits, bits_of}

-- the generator without its first bit
abbrev pub low_generator : List Bool
low_generator = drop 1 generator

-- fifteen bits moved up by one, with the generator added where the bit that left the register is 1
abbrev pub reduced : Bool → List Bool → List Bool
reduced false others = others ++ false ∷ []
reduced true others = plus_bits low_generator (others ++ false ∷ [])

-- the register's bits after one more bit of the message
abbrev pub stepped : List Bool → Bool → List Bool
stepped [] b = []
stepped (s ∷ others) b = reduced (plus_bit s b) others

-- the register's bits after a message
abbrev pub ran : List Bool → List Bool → List Bool
ran register [] = register
ran register (b ∷ bits) = ran (stepped register b) bits

abbrev pub zeros : List Bool
zeros = replicate 16 false

abbrev pub ones : List Bool
ones = replicate 16 true

-- sums without carries

pub length-plus_bits : (word bits : List Bool) → length (plus_bits word bits) ≡ length bits
length-plus_bits [] bits = refl
length-plus_bits (w ∷ word) [] = refl
length-plus_bits (w ∷ word) (b ∷ bits) = ap suc (length-plus_bits word bits)

plus_bit-false : (w : Bool) → plus_bit w false ≡ w
plus_bit-false false = refl
plus_bit-false true = refl

pub plus_bit-assoc : (a b c : Bool) → plus_bit a (plus_bit b c) ≡ plus_bit (plus_bit a b) c
plus_bit-assoc false b c = refl
plus_bit-assoc true false c = refl
plus_bit-assoc true true false = refl
plus_bit-assoc true true true = refl

pub plus_bits-zeros : (word : List Bool) → plus_bits word (replicate (length word) false) ≡ word
plus_bits-zeros [] = refl
plus_bits-zeros (w ∷ word) = rw (plus_bit-false w, plus_bits-zeros word) refl

-- a zero at the end of the word adds nothing
plus_bits-longer : (word bits : List Bool) → plus_bits (word ++ false ∷ []) bits ≡ plus_bits word bits
plus_bits-longer [] [] = refl
plus_bits-longer [] (b ∷ bits) = refl
plus_bits-longer (w ∷ word) [] = refl
plus_bits-longer (w ∷ word) (b ∷ bits) = ap (λ rest. plus_bit w b ∷ rest) (plus_bits-longer word bits)

pub plus_bits-assoc : (vs ws bits : List Bool) → length vs ≤ length ws → plus_bits vs (plus_bits ws bits) ≡ plus_bits (plus_bits vs ws) bits
plus_bits-assoc [] ws bits e = refl
plus_bits-assoc (v ∷ vs) [] bits e = absurd (omega arith)
plus_bits-assoc (v ∷ vs) (w ∷ ws) [] e = refl
plus_bits-assoc (v ∷ vs) (w ∷ ws) (b ∷ bits) e =
    let within : length vs ≤ length ws = omega arith in
    rw (plus_bit-assoc v w b, plus_bits-assoc vs ws bits within) refl

-- the preset adds sixteen ones
pub preset-ones : (k : ℕ) (bits : List Bool) → map not (take k bits) ++ drop k bits ≡ plus_bits (replicate k true) bits
preset-ones zero bits = refl
preset-ones (suc k) [] = refl
preset-ones (suc k) (b ∷ bits) = ap (λ rest. not b ∷ rest) (preset-ones k bits)

-- the register does the division

divided-step : (q : Bool) (others bits : List Bool) → length others ≡ 15 → divided (suc (length bits)) (q ∷ plus_bits others (bits ++ zeros)) ≡ divided (length bits) (plus_bits (reduced q others) (bits ++ zeros))
divided-step false others bits e = ap (λ l. divided (length bits) l) (sym (plus_bits-longer others (bits ++ zeros)))
divided-step true others bits e =
    let longer : length low_generator ≤ length (others ++ false ∷ []) = omega (arith, length-append others (false ∷ [])) in
    ap (λ l. divided (length bits) l)
    (ap (λ l. plus_bits low_generator l) (sym (plus_bits-longer others (bits ++ zeros)))
    ∙ plus_bits-assoc low_generator (others ++ false ∷ []) (bits ++ zeros) longer)

pub length-reduced : (q : Bool) (others : List Bool) → length (reduced q others) ≡ length others + 1
length-reduced false others = length-append others (false ∷ [])
length-reduced true others = length-plus_bits low_generator (others ++ false ∷ []) ∙ length-append others (false ∷ [])

pub length-stepped : (register : List Bool) (b : Bool) → length register ≡ 16 → length (stepped register b) ≡ 16
length-stepped [] b e = absurd (omega arith)
length-stepped (s ∷ others) b e = omega (arith, length-reduced (plus_bit s b) others)

pub length-ran : (register bits : List Bool) → length register ≡ 16 → length (ran register bits) ≡ 16
length-ran register [] e = e
length-ran register (b ∷ bits) e = length-ran (stepped register b) bits (length-stepped register b e)

pub divided-ran : (register bits : List Bool) → length register ≡ 16 → divided (length bits) (plus_bits register (bits ++ zeros)) ≡ ran register bits
divided-ran register [] e = ap (λ k. plus_bits register (replicate k false)) (sym e) ∙ plus_bits-zeros register
divided-ran [] (b ∷ bits) e = absurd (omega arith)
divided-ran (s ∷ others) (b ∷ bits) e =
    let rest : length others ≡ 15 = omega arith in
    divided-step (plus_bit s b) others bits rest ∙ divided-ran (stepped (s ∷ others) b) bits (length-stepped (s ∷ others) b e)

remainder-ran : (bits : List Bool) → remainder (preset (bits ++ zeros)) ≡ ran ones bits
remainder-ran bits =
    let whole : length (preset (bits ++ zeros)) ≡ length bits + 16 = ap length (preset-ones 16 (bits ++ zeros)) ∙ length-plus_bits ones (bits ++ zeros) ∙ length-append bits zeros in
    let steps : length (preset (bits ++ zeros)) - 16 ≡ length bits = omega arith in
    rw (steps, preset-ones 16 (bits ++ zeros)) (divided-ran ones bits refl)

pub ran-append : (register bits more : List Bool) → ran register (bits ++ more) ≡ ran (ran register bits) more
ran-append register [] more = refl
ran-append register (b ∷ bits) more = ran-append (stepped register b) bits more

-- the same on numbers

pub bits_number-lt : (bits : List Bool) → bits_number bits < 2 ^ length bits
bits_number-lt [] = omega arith
bits_number-lt (false ∷ bits) = rw (pow-suc 2 (length bits)) (omega (arith, bits_number-lt bits))
bits_number-lt (true ∷ bits) = rw (pow-suc 2 (length bits)) (omega (arith, bits_number-lt bits))

bit_of-plus : (v w : Bool) → bit_of (plus_bit v w) ≡ bit_xor (bit_of v) (bit_of w)
bit_of-plus false false = refl
bit_of-plus false true = refl
bit_of-plus true false = refl
bit_of-plus true true = refl

pub bits_number-plus : (vs ws : List Bool) → length vs ≡ length ws → bits_number (plus_bits vs ws) ≡ bit_xor (bits_number vs) (bits_number ws)
bits_number-plus [] [] e = refl
bits_number-plus [] (w ∷ ws) e = absurd (omega arith)
bits_number-plus (v ∷ vs) [] e = absurd (omega arith)
bits_number-plus (v ∷ vs) (w ∷ ws) e =
    let same : length vs ≡ length ws = omega arith in
    let below : bits_number vs < 2 ^ length ws = rw (← same) (bits_number-lt vs) in
    rw (length-plus_bits vs ws, same, bit_of-plus v w, bits_number-plus vs ws same)
    (sym (xor_block (length ws) (bit_of v) (bit_of w) (bits_number vs) (bits_number ws) below (bits_number-lt ws)))

-- the number of the register

pub register_of-ran : (bits : List Bool) → register_of bits ≡ bits_number (ran ones bits)
unfolding register_of
register_of-ran bits = ap bits_number (remainder-ran bits)

-- octets

pub fecf_of-register : (octets : List ℕ) → fecf_of octets ≡ register_of (bits_of octets)
unfolding fecf_of
fecf_of-register octets = refl

-- the field after more octets
pub fecf_of-append : (before octets : List ℕ) → fecf_of (before ++ octets) ≡ bits_number (ran (ran ones (bits_of before)) (bits_of octets))
fecf_of-append before octets =
    fecf_of-register (before ++ octets) ∙ register_of-ran (bits_of (before ++ octets))
    ∙ ap (λ bits. bits_number (ran ones bits)) (flat_map-append octet_bits before octets)
    ∙ ap bits_number (ran-append ones (bits_of before) (bits_of octets))

-- the field is a number of sixteen bits
pub fecf_of_lt : (octets : List ℕ) → fecf_of octets < 65536
fecf_of_lt octets =
    let word = ran ones (bits_of octets) in
    let bits : length word ≡ 16 = length-ran ones (bits_of octets) refl in
    rw (fecf_of-register octets ∙ register_of-ran (bits_of octets)) (rw (ap (λ k. 2 ^ k) bits) at (bits_number-lt word))
