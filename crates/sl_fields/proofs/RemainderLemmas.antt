-- The long division finds the one remainder that exists.
use Rattle.std.proofs.Common.{◌≡◌, ℕ, zero, suc, ◌+◌, ◌-◌, ◌*◌, ◌≤◌, Bool, true, false, List, [], ◌∷◌, ◌++◌, length, replicate, refl, sym, ◌∙◌, ap, arith}
use Rattle.std.proofs.lemmas.List.{length-append, length-replicate}
use Rattle.sl_fields.specs.Fecf.{plus_bits, divided, remainder, preset, octet_bits, bits_of, bits_number, fecf_of, register_of}
use Rattle.sl_fields.specs.FecfFolds.{part_of}
use Rattle.sl_fields.specs.Remainder.{multiple, IsRemaindersNumber, DivisionFindsRemainder, RemainderIsOnlyOne, FieldIsRemainder, WordIsRemainder}
use Rattle.sl_fields.proofs.Division.{low_generator, length-plus_bits, plus_bits-assoc, preset-ones, ones}
use Rattle.sl_fields.proofs.FecfSums.{plus_bits-false, plus_bits-twice}

length-multiple : (quotient : List Bool) → length (multiple quotient) ≡ length quotient + 16
length-multiple [] = refl
length-multiple (false ∷ quotient) = omega (arith, length-multiple quotient)
length-multiple (true ∷ quotient) =
    omega (arith, length-multiple quotient, length-plus_bits low_generator (multiple quotient))

-- the generator cancels out when it is added twice
generator-twice : (quotient bits : List Bool) → plus_bits low_generator (plus_bits (plus_bits low_generator (multiple quotient)) bits) ≡ plus_bits (multiple quotient) bits
generator-twice quotient bits =
    let within : length low_generator ≤ length (multiple quotient) = omega (arith, length-multiple quotient) in
    ap (plus_bits low_generator) (sym (plus_bits-assoc low_generator (multiple quotient) bits within)) ∙ plus_bits-twice low_generator (plus_bits (multiple quotient) bits)

length-divided : (steps : ℕ) (bits : List Bool) → length bits ≡ steps + 16 → length (divided steps bits) ≡ 16
length-divided zero bits e = omega arith
length-divided (suc steps) [] e = absurd (omega arith)
length-divided (suc steps) (false ∷ bits) e = length-divided steps bits (omega arith)
length-divided (suc steps) (true ∷ bits) e =
    length-divided steps (plus_bits low_generator bits) (omega (arith, length-plus_bits low_generator bits))

-- the bits that are divided are a multiple of the generator plus the remainder that is left
divided-multiple : (steps : ℕ) (bits : List Bool) → length bits ≡ steps + 16 → (quotient : List Bool) × (length quotient ≡ steps) × (bits ≡ plus_bits (multiple quotient) (replicate steps false ++ divided steps bits))
divided-multiple zero bits e = ([], refl, sym (plus_bits-false 16 bits))
divided-multiple (suc steps) [] e = absurd (omega arith)
divided-multiple (suc steps) (false ∷ bits) e =
    let found = divided-multiple steps bits (omega arith) in
    (false ∷ found.0, ap suc found.1, ap (λ rest. false ∷ rest) found.2)
divided-multiple (suc steps) (true ∷ bits) e =
    let less = plus_bits low_generator bits in
    let found = divided-multiple steps less (omega (arith, length-plus_bits low_generator bits)) in
    let left = replicate steps false ++ divided steps less in
    let within : length low_generator ≤ length (multiple found.0) = omega (arith, length-multiple found.0) in
    let back : bits ≡ plus_bits (plus_bits low_generator (multiple found.0)) left = sym (plus_bits-twice low_generator bits) ∙ ap (plus_bits low_generator) found.2 ∙ plus_bits-assoc low_generator (multiple found.0) left within in
    (true ∷ found.0, ap suc found.1, ap (λ rest. true ∷ rest) back)

-- the division of a multiple plus sixteen bits leaves these sixteen bits
multiple-divided : (quotient rest : List Bool) → divided (length quotient) (plus_bits (multiple quotient) (replicate (length quotient) false ++ rest)) ≡ rest
multiple-divided [] rest = plus_bits-false 16 rest
multiple-divided (false ∷ quotient) rest = multiple-divided quotient rest
multiple-divided (true ∷ quotient) rest =
    ap (divided (length quotient)) (generator-twice quotient (replicate (length quotient) false ++ rest)) ∙ multiple-divided quotient rest

pub division_finds_remainder : DivisionFindsRemainder
division_finds_remainder bits long =
    let whole : length bits ≡ (length bits - 16) + 16 = omega arith in
    let found = divided-multiple (length bits - 16) bits whole in
    record {
      short = length-divided (length bits - 16) bits whole;
      multiple_added = (found.0, found.2 ∙ ap (λ n. plus_bits (multiple found.0) (replicate n false ++ remainder bits)) (sym found.1));
    }

pub remainder_is_only_one : RemainderIsOnlyOne
remainder_is_only_one bits rest h =
    let quotient = h.multiple_added.0 in
    let sum = plus_bits (multiple quotient) (replicate (length quotient) false ++ rest) in
    let long : length sum ≡ length quotient + 16 = length-plus_bits (multiple quotient) (replicate (length quotient) false ++ rest) ∙ omega (arith, length-append (replicate (length quotient) false) rest, length-replicate (length quotient) false, h.short) in
    let steps : length sum - 16 ≡ length quotient = omega arith in
    sym (multiple-divided quotient rest) ∙ ap (λ n. divided n sum) (sym steps) ∙ ap remainder (sym h.multiple_added.1)

remainders_number : (bits : List Bool) → 16 ≤ length bits → IsRemaindersNumber bits (bits_number (remainder bits))
remainders_number bits long = record {
  is = (remainder bits, division_finds_remainder bits long, refl);
  only = λ rest h. ap bits_number (sym (remainder_is_only_one bits rest h));
}

pub field_is_remainder : FieldIsRemainder
unfolding fecf_of register_of
field_is_remainder octets =
    let bits = bits_of octets ++ replicate 16 false in
    let long : length (preset bits) ≡ length bits = ap length (preset-ones 16 bits) ∙ length-plus_bits ones bits in
    remainders_number (preset bits) (omega (arith, length-append (bits_of octets) (replicate 16 false)))

pub word_is_remainder : WordIsRemainder
unfolding part_of
word_is_remainder later octet =
    let bits = octet_bits octet ++ replicate (8 * later + 16) false in
    remainders_number bits (omega (arith, length-append (octet_bits octet) (replicate (8 * later + 16) false), length-replicate (8 * later + 16) false))
