-- The texts of a CLCW's flags, by their number.
use Rattle.std.proofs.Common.{ℕ, ◌+◌, ◌*◌, ◌/◌, ◌%◌, ◌<◌, ◌≡◌, Bool, true, false, List, [], ◌++◌, map, get_or, refl, ap, ◌∙◌, arith}
use Rattle.std.specs.Prelude.{codes, decimal}
use Rattle.std.specs.Fmt.{digits}
use Rattle.std.specs.List.{range_with_len}
use Rattle.std.proofs.lemmas.List.FromFn.{get_or-map-range_with_len}
use Rattle.sl_fields.specs.Field.{bit_of}
use Rattle.sl_engine.specs.declared.verbs.show.clcw_flags.TheConstants.{TEXTS}

-- the text of three flags and a counter
abbrev pub flags_fields : ℕ → ℕ → ℕ → ℕ → List ℕ
flags_fields lockout wait retransmit farm_b =
    codes " lockout " ++ decimal lockout ++ codes " wait " ++ decimal wait ++ codes " retransmit " ++ decimal retransmit
    ++ codes " farmb " ++ decimal farm_b ++ codes " vr "

-- the same of their number
abbrev pub flags_of_number : ℕ → List ℕ
flags_of_number n = flags_fields (n / 16) (n / 8 % 2) (n / 4 % 2) (n % 4)

-- the table has these texts: computed
are_texts : TEXTS ≡ map flags_of_number (range_with_len 0 32)
unfolding digits
are_texts = refl

text_at : (n : ℕ) → n < 32 → get_or TEXTS n [] ≡ flags_of_number n
text_at n below = ap (λ all. get_or all n []) are_texts ∙ get_or-map-range_with_len flags_of_number 0 32 n n [] below (omega arith)

number_of_fields : (l w r f : ℕ) → l < 2 → w < 2 → r < 2 → f < 4
    → flags_of_number (16 * l + 8 * w + 4 * r + f) ≡ flags_fields l w r f
number_of_fields l w r f lb wb rb fb =
    let n : ℕ = 16 * l + 8 * w + 4 * r + f in
    let l_is : n / 16 ≡ l = omega (arith, lb, wb, rb, fb) in
    let w_is : n / 8 % 2 ≡ w = omega (arith, lb, wb, rb, fb) in
    let r_is : n / 4 % 2 ≡ r = omega (arith, lb, wb, rb, fb) in
    let f_is : n % 4 ≡ f = omega (arith, lb, wb, rb, fb) in
    rw (l_is, w_is, r_is, f_is) refl

bit_below : (b : Bool) → bit_of b < 2
bit_below true = omega arith
bit_below false = omega arith

pub flags_at : (lockout wait retransmit : Bool) (farm_b : ℕ) → farm_b < 4
    → get_or TEXTS (16 * bit_of lockout + 8 * bit_of wait + 4 * bit_of retransmit + farm_b) []
    ≡ flags_fields (bit_of lockout) (bit_of wait) (bit_of retransmit) farm_b
flags_at lockout wait retransmit farm_b few =
    let l = bit_below lockout in
    let w = bit_below wait in
    let r = bit_below retransmit in
    text_at (16 * bit_of lockout + 8 * bit_of wait + 4 * bit_of retransmit + farm_b) (omega (arith, l, w, r, few))
    ∙ number_of_fields (bit_of lockout) (bit_of wait) (bit_of retransmit) farm_b l w r few
