-- Octets that end with their field have the field 0, and no other octets have. (The books call this number the syndrome.)
use Rattle.std.proofs.Common.{◌≡◌, ℕ, zero, suc, ◌+◌, ◌-◌, ◌*◌, ◌<◌, ◌==◌, Bool, true, false, ◌&&◌, List, [], ◌∷◌, ◌++◌, length, take, drop, get_or, replicate, inl, inr, refl, sym, ◌∙◌, ap, arith, append-nil}
use Rattle.std.proofs.lemmas.Bool.Decides.{eqb_tells}
use Rattle.std.proofs.lemmas.Bool.{lt-ltb}
use Rattle.std.proofs.lemmas.List.{take-append-drop, length-drop, get_or-drop}
use Rattle.std.proofs.Math.Seq.{take-append_seam, drop-append_seam}
use Rattle.std.specs.Int.{w16, from_be_bytes}
use Rattle.sl_fields.specs.Field.{number_of}
use Rattle.sl_fields.specs.Fecf.{octet_bits, bits_of, bits_number, plus_bits, fecf_of, fecf_is_good}
use Rattle.sl_fields.proofs.Division.{low_generator, stepped, ran, zeros, ones, plus_bits-zeros, length-plus_bits, length-stepped, length-ran, register_of-ran, fecf_of-register, fecf_of-append}
use Rattle.sl_fields.specs.FecfFolds.{part_of}
use Rattle.sl_fields.proofs.FecfParts.{part-nil, zeros_by_FF_FF}
use Rattle.sl_fields.proofs.FecfSums.{plus_bits-false, plus_bits-append, plus_bits-twice, ran-front}
use Rattle.sl_fields.proofs.FecfWordLemmas.{bits_number-append, bits_number_injective, bits_number-octet}

-- ---- a register that zeros of a message leave at zeros

-- the generator's lower bits but the last, which is 1
abbrev middle : List Bool
middle = take 15 low_generator

step_back : (register : List Bool) → length register ≡ 16 → stepped register false ≡ zeros → register ≡ zeros
step_back [] long e = absurd (omega arith)
step_back (false ∷ others) long e =
    let fifteen : length others ≡ 15 = omega arith in
    let none : others ≡ replicate 15 false = sym (take-append_seam others (false ∷ [])) ∙ ap (λ n. take n (others ++ false ∷ [])) fifteen ∙ ap (take 15) e in
    ap (λ l. false ∷ l) none
step_back (true ∷ others) long e =
    let same : length middle ≡ length others = omega arith in
    let sum : plus_bits middle others ++ (true ∷ []) ≡ zeros = sym (plus_bits-append middle others (true ∷ []) (false ∷ []) same) ∙ e in
    let fifteen : length (plus_bits middle others) ≡ 15 = omega (arith, length-plus_bits middle others) in
    let last : true ∷ [] ≡ false ∷ [] = sym (drop-append_seam (plus_bits middle others) (true ∷ [])) ∙ ap (λ n. drop n (plus_bits middle others ++ (true ∷ []))) fifteen ∙ ap (drop 15) sum in
    cc

run_back : (count : ℕ) (register : List Bool) → length register ≡ 16 → ran register (replicate count false) ≡ zeros → register ≡ zeros
run_back zero register long e = e
run_back (suc count) register long e =
    step_back register long (run_back count (stepped register false) (length-stepped register false long) e)

-- ---- sixteen bits of a message

plus_bits-self : (word : List Bool) → plus_bits word word ≡ replicate (length word) false
plus_bits-self word = ap (plus_bits word) (sym (plus_bits-zeros word)) ∙ plus_bits-twice word (replicate (length word) false)

-- the sum of the register and as many bits, and then zeros
ran-word : (register bits : List Bool) → length register ≡ 16 → length bits ≡ 16 → ran register bits ≡ ran zeros (plus_bits register bits)
ran-word register bits long e =
    ap (λ l. ran l bits) (sym (append-nil register))
    ∙ ran-front register [] bits (ap length (append-nil register) ∙ long) (long ∙ sym e)
    ∙ ap (λ n. plus_bits (replicate n false) (ran zeros (plus_bits register bits))) long
    ∙ plus_bits-false 16 (ran zeros (plus_bits register bits))

-- the register's own bits leave zeros, and no others
word_out : (register bits : List Bool) → length register ≡ 16 → length bits ≡ 16 → register ≡ bits → ran register bits ≡ zeros
word_out register bits long e same =
    ran-word register bits long e
    ∙ ap (λ l. ran zeros (plus_bits register l)) (sym same)
    ∙ ap (ran zeros) (plus_bits-self register ∙ ap (λ n. replicate n false) long)

word_back : (register bits : List Bool) → length register ≡ 16 → length bits ≡ 16 → ran register bits ≡ zeros → register ≡ bits
word_back register bits long e out =
    let sum = plus_bits register bits in
    let long_sum : length sum ≡ 16 = length-plus_bits register bits ∙ e in
    let as_is : plus_bits sum zeros ≡ sum = ap (λ n. plus_bits sum (replicate n false)) (sym long_sum) ∙ plus_bits-zeros sum in
    let moved : ran sum zeros ≡ ran zeros sum = ran-word sum zeros long_sum refl ∙ ap (ran zeros) as_is in
    let none : sum ≡ zeros = run_back 16 sum long_sum (moved ∙ sym (ran-word register bits long e) ∙ out) in
    sym (plus_bits-zeros register) ∙ ap (λ n. plus_bits register (replicate n false)) long ∙ ap (plus_bits register) (sym none) ∙ plus_bits-twice register bits

-- ---- the field

number_of-bits : (a b : ℕ) → a < 256 → b < 256 → bits_number (bits_of (a ∷ (b ∷ []))) ≡ number_of (a ∷ (b ∷ []))
number_of-bits a b first second =
    bits_number-append (octet_bits a) (octet_bits b)
    ∙ ap (λ n. n * 256 + bits_number (octet_bits b)) (bits_number-octet a first)
    ∙ ap (λ n. a * 256 + n) (bits_number-octet b second) ∙ omega arith

fecf_is_word : (octets : List ℕ) → fecf_of octets ≡ bits_number (ran ones (bits_of octets))
fecf_is_word octets = fecf_of-register octets ∙ register_of-ran (bits_of octets)

syndrome : (before : List ℕ) (a b : ℕ) → a < 256 → b < 256 → (number_of (a ∷ (b ∷ [])) ≡ fecf_of before → fecf_of (before ++ a ∷ (b ∷ [])) ≡ 0) × (fecf_of (before ++ a ∷ (b ∷ [])) ≡ 0 → number_of (a ∷ (b ∷ [])) ≡ fecf_of before)
syndrome before a b first second =
    let word = ran ones (bits_of before) in
    let bits = bits_of (a ∷ (b ∷ [])) in
    let long : length word ≡ 16 = length-ran ones (bits_of before) refl in
    let number = number_of-bits a b first second in
    let after = fecf_of-append before (a ∷ (b ∷ [])) in (
      λ right. after ∙ ap bits_number (word_out word bits long refl (bits_number_injective word bits long (sym (number ∙ right ∙ fecf_is_word before)))),
      λ none.
          let out : ran word bits ≡ zeros = bits_number_injective (ran word bits) zeros (length-ran word bits long) (sym after ∙ none) in
          sym number ∙ ap bits_number (sym (word_back word bits long refl out)) ∙ sym (fecf_is_word before),
    )

same_test : (a b c d : ℕ) → (a ≡ b → c ≡ d) → (c ≡ d → a ≡ b) → (c == d) ≡ (a == b)
same_test a b c d there back =
    elim (eqb_tells a b) [
      | inl (e, same) ↦ elim (eqb_tells c d) [
        | inl (f, other) ↦ f ∙ sym e
        | inr (f, other) ↦ absurd (other (there same))
      ]
      | inr (e, unlike) ↦ elim (eqb_tells c d) [
        | inl (f, other) ↦ absurd (unlike (back other))
        | inr (f, other) ↦ f ∙ sym e
      ]
    ]

-- the last two octets
as_two : (octets : List ℕ) → length octets ≡ 2 → octets ≡ get_or octets 0 0 ∷ (get_or octets 1 0 ∷ [])
as_two [] e = absurd (omega arith)
as_two (a ∷ []) e = absurd (omega arith)
as_two (a ∷ (b ∷ [])) e = refl
as_two (a ∷ (b ∷ (c ∷ octets))) e = absurd (omega arith)

pub good_by_syndrome : (octets : List ℕ) → 2 < length octets → ((i : ℕ) → get_or octets i 0 < 256) → (fecf_of octets == 0) ≡ fecf_is_good octets
good_by_syndrome octets enough below =
    let n = length octets - 2 in
    let before = take n octets in
    let field = drop n octets in
    let a = get_or field 0 0 in
    let b = get_or field 1 0 in
    let two : field ≡ a ∷ (b ∷ []) = as_two field (omega (arith, length-drop n octets)) in
    let fits : (i : ℕ) → get_or field i 0 < 256 = λ i. rw (get_or-drop n octets i 0) (below (n + i)) in
    let law = syndrome before a b (fits 0) (fits 1) in
    ap (λ l. fecf_of l == 0) (sym (take-append-drop n octets) ∙ ap (λ l. before ++ l) two)
    ∙ same_test (number_of (a ∷ (b ∷ []))) (fecf_of before) (fecf_of (before ++ a ∷ (b ∷ []))) 0 law.0 law.1
    ∙ ap (λ l. number_of l == fecf_of before) (sym two)
    ∙ sym (ap (λ t. t && (number_of field == fecf_of before)) (lt-ltb 2 (length octets) enough))

-- two octets that leave the remainder 0 are zeros
pub part_of_two : (octets : List ℕ) → length octets ≡ 2 → ((i : ℕ) → get_or octets i 0 < 256) → (part_of 0 octets == 0) ≡ (from_be_bytes w16 octets == 0)
part_of_two octets e below =
    let a = get_or octets 0 0 in
    let b = get_or octets 1 0 in
    let preset : List ℕ = 0xFF ∷ (0xFF ∷ []) in
    let none : fecf_of preset ≡ 0 = zeros_by_FF_FF [] ∙ part-nil 0 in
    let law = syndrome preset a b (below 0) (below 1) in
    let number : from_be_bytes w16 octets ≡ number_of (a ∷ (b ∷ [])) = omega arith in
    ap (λ l. part_of 0 l == 0) (as_two octets e)
    ∙ ap (λ n. n == 0) (sym (zeros_by_FF_FF (a ∷ (b ∷ []))))
    ∙ same_test (number_of (a ∷ (b ∷ []))) (fecf_of preset) (fecf_of (preset ++ a ∷ (b ∷ []))) 0 law.0 law.1
    ∙ ap (λ n. number_of (a ∷ (b ∷ [])) == n) none ∙ ap (λ n. n == 0) (sym number)
