-- The texts of the bits of a packet's header, by their number.
use Rattle.std.proofs.Common.{ℕ, ◌+◌, ◌*◌, ◌/◌, ◌%◌, ◌<◌, ◌≡◌, Bool, true, false, List, [], ◌++◌, map, get_or, refl, ap, append_assoc, ◌∙◌, arith}
use Rattle.std.specs.Prelude.{codes, decimal}
use Rattle.std.specs.Fmt.{digits}
use Rattle.std.specs.List.{range_with_len}
use Rattle.std.proofs.lemmas.List.FromFn.{get_or-map-range_with_len}
use Rattle.sl_fields.specs.Field.{bit_of}
use Rattle.sl_engine.specs.declared.verbs.packets.lines.header_bits.TheConstants.{TEXTS}

-- the text of a type, a flag and sequence flags
abbrev pub bits_fields : ℕ → ℕ → ℕ → List ℕ
bits_fields kind secondary flags =
    codes " type " ++ decimal kind ++ codes " secondary " ++ decimal secondary ++ codes " flags " ++ decimal flags ++ codes " count "

-- the same of their number
abbrev pub bits_of_number : ℕ → List ℕ
bits_of_number n = bits_fields (n / 8) (n / 4 % 2) (n % 4)

-- the table has these texts: computed
are_texts : TEXTS ≡ map bits_of_number (range_with_len 0 16)
unfolding digits
are_texts = refl

text_at : (n : ℕ) → n < 16 → get_or TEXTS n [] ≡ bits_of_number n
text_at n below = ap (λ all. get_or all n []) are_texts ∙ get_or-map-range_with_len bits_of_number 0 16 n n [] below (omega arith)

number_of_fields : (k s f : ℕ) → k < 2 → s < 2 → f < 4 → bits_of_number (8 * k + 4 * s + f) ≡ bits_fields k s f
number_of_fields k s f kb sb fb =
    let n : ℕ = 8 * k + 4 * s + f in
    let k_is : n / 8 ≡ k = omega (arith, kb, sb, fb) in
    let s_is : n / 4 % 2 ≡ s = omega (arith, kb, sb, fb) in
    let f_is : n % 4 ≡ f = omega (arith, kb, sb, fb) in
    rw (k_is, s_is, f_is) refl

bit_below : (b : Bool) → bit_of b < 2
bit_below true = omega arith
bit_below false = omega arith

pub bits_at : (kind : ℕ) (secondary : Bool) (flags : ℕ) → kind < 2 → flags < 4
    → get_or TEXTS (8 * kind + 4 * bit_of secondary + flags) [] ≡ bits_fields kind (bit_of secondary) flags
bits_at kind secondary flags one few =
    let s = bit_below secondary in
    text_at (8 * kind + 4 * bit_of secondary + flags) (omega (arith, one, s, few))
    ∙ number_of_fields kind (bit_of secondary) flags one s few

-- the line of a header in its parts
pub header_joined : (start apid kind secondary flags count name type_name secondary_name flags_name count_name : List ℕ)
    → (((start ++ name) ++ apid) ++ (type_name ++ kind ++ secondary_name ++ secondary ++ flags_name ++ flags ++ count_name)) ++ count
    ≡ start ++ (name ++ apid ++ type_name ++ kind ++ (secondary_name ++ secondary ++ flags_name ++ flags ++ count_name ++ count))
header_joined start apid kind secondary flags count name type_name secondary_name flags_name count_name = simp append_assoc
