-- Octets that end with their frame error control field.
use Rattle.std.proofs.Common.{◌≡◌, ℕ, ◌+◌, ◌-◌, ◌≤◌, ◌<◌, Bool, true, false, not, ◌&&◌, List, [], ◌∷◌, ◌++◌, length, take, drop, refl, ◌∙◌, ap, arith, length-append}
use Rattle.std.proofs.Math.Seq.{take-append_seam, drop-append_seam}
use Rattle.std.proofs.lemmas.Bool.{eq-eqb, lt-ltb}
use Rattle.sl_fields.specs.Fecf.{fecf_of, fecf_is_good}
use Rattle.sl_fields.specs.FecfField.{fecf_octets, fecf_part, fecf_len, with_fecf}
use Rattle.sl_fields.specs.Field.{number_of, packed}
use Rattle.sl_fields.proofs.Division.{fecf_of_lt}
use Rattle.sl_fields.proofs.Octets.{length-octets_of, number_of-bytes}

pub length-fecf_part : (has : Bool) (octets : List ℕ) → length (fecf_part has octets) ≡ fecf_len has
length-fecf_part true octets = length-octets_of 2 ((16, fecf_of octets) ∷ [])
length-fecf_part false octets = refl

pub fecf_len_le : (has : Bool) → fecf_len has ≤ 2
fecf_len_le true = omega arith
fecf_len_le false = omega arith

pub number_of-fecf : (octets : List ℕ) → number_of (fecf_octets octets) ≡ fecf_of octets
number_of-fecf octets =
    let value : packed ((16, fecf_of octets) ∷ []) ≡ fecf_of octets = omega arith in
    number_of-bytes 2 (packed ((16, fecf_of octets) ∷ [])) (omega (arith, fecf_of_lt octets)) ∙ value

pub length-with_fecf : (has : Bool) (octets : List ℕ) → length (with_fecf has octets) ≡ length octets + fecf_len has
length-with_fecf has octets = omega (arith, length-append octets (fecf_part has octets), length-fecf_part has octets)

-- the octets before the last two, and the last two
pub covered_by_fecf : (octets : List ℕ) → take (length (octets ++ fecf_octets octets) - 2) (octets ++ fecf_octets octets) ≡ octets
covered_by_fecf octets =
    let long : length (octets ++ fecf_octets octets) - 2 ≡ length octets = omega (arith, length-with_fecf true octets) in
    ap (λ n. take n (octets ++ fecf_octets octets)) long ∙ take-append_seam octets (fecf_octets octets)

pub ends_with_fecf : (octets : List ℕ) → drop (length (octets ++ fecf_octets octets) - 2) (octets ++ fecf_octets octets) ≡ fecf_octets octets
ends_with_fecf octets =
    let long : length (octets ++ fecf_octets octets) - 2 ≡ length octets = omega (arith, length-with_fecf true octets) in
    ap (λ n. drop n (octets ++ fecf_octets octets)) long ∙ drop-append_seam octets (fecf_octets octets)

-- octets followed by their field end with the right field
pub with_fecf_good : (octets : List ℕ) → 0 < length octets → fecf_is_good (octets ++ fecf_octets octets) ≡ true
with_fecf_good octets some =
    let enough = lt-ltb 2 (length (octets ++ fecf_octets octets)) (omega (arith, length-with_fecf true octets)) in
    let same = eq-eqb (number_of (fecf_octets octets)) (fecf_of octets) (number_of-fecf octets) in
    rw (enough, covered_by_fecf octets, ends_with_fecf octets) same

-- where frames have the field, the field that was added isn't wrong
pub with_fecf_is_good : (has : Bool) (octets : List ℕ) → 0 < length octets → (has && not (fecf_is_good (with_fecf has octets))) ≡ false
with_fecf_is_good false octets some = refl
with_fecf_is_good true octets some = ap not (with_fecf_good octets some)
