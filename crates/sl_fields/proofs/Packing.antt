-- Fields are packed into a number and taken out again.
use Rattle.std.proofs.Common.{◌≡◌, ℕ, ◌+◌, ◌*◌, ◌/◌, ◌%◌, ◌^◌, ◌<◌, ◌≤◌, List, [], ◌∷◌, refl, sym, ◌∙◌, ap, arith, bit_or, ◌-◌}
use Rattle.std.proofs.lemmas.Nat.{pow-add, mul-add-lt, pow_pos, pow_below, or_shifted, mod-pow-add, field_of, shr_high}
use Rattle.std.proofs.Math.Nat.{add-mul, mul_assoc, mul_comm, add_assoc, mod-eq_of_lt, mod-one, mul-add-mod_self_right, le-mul_of_pos_right}
use Rattle.sl_fields.specs.Field.{width_of, packed, FitWidths}

-- fields that fit make a number of no more bits than the fields have together
pub packed_lt : (fs : List (ℕ × ℕ)) → FitWidths fs → packed fs < 2 ^ width_of fs
packed_lt [] h = omega arith
packed_lt (f ∷ fs) h =
    rw (pow-add 2 f.0 (width_of fs), mul_comm (2 ^ f.0) (2 ^ width_of fs))
    (mul-add-lt f.1 (2 ^ width_of fs) (packed fs) (2 ^ f.0) h.0 (packed_lt fs h.1))

-- one more field below the number, and one field fewer to come
pub packed-step : (n : ℕ) (f : ℕ × ℕ) (fs : List (ℕ × ℕ)) → n * 2 ^ width_of (f ∷ fs) + packed (f ∷ fs) ≡ (n * 2 ^ f.0 + f.1) * 2 ^ width_of fs + packed fs
packed-step n f fs =
    rw (pow-add 2 f.0 (width_of fs), ← mul_assoc n (2 ^ f.0) (2 ^ width_of fs), add-mul (n * 2 ^ f.0) f.1 (2 ^ width_of fs))
    (sym (add_assoc (n * 2 ^ f.0 * 2 ^ width_of fs) (f.1 * 2 ^ width_of fs) (packed fs)))

-- while fields are packed: the number so far, the fields to come, and all fields
pub record IsPacking (number : ℕ) (rest fields : List (ℕ × ℕ)) : Type 0 where
  pub value : number * 2 ^ width_of rest + packed rest ≡ packed fields
  pub fit : FitWidths rest
  pub room : width_of rest ≤ width_of fields

-- the next field is shifted in, and no bit is lost
pub shifted_in : (n : ℕ) (f : ℕ × ℕ) (rest fields : List (ℕ × ℕ)) → FitWidths fields → width_of fields < 64 → IsPacking n (f ∷ rest) fields → bit_or (n * 2 ^ f.0 % 18446744073709551616) f.1 ≡ n * 2 ^ f.0 + f.1
shifted_in n f rest fields fit room p =
    let e : n * 2 ^ f.0 * 2 ^ width_of rest ≤ packed fields = let v = sym (packed-step n f rest) ∙ p.value in omega (arith, v, add-mul (n * 2 ^ f.0) f.1 (2 ^ width_of rest)) in
    let less : n * 2 ^ f.0 ≤ n * 2 ^ f.0 * 2 ^ width_of rest = le-mul_of_pos_right (n * 2 ^ f.0) (pow_pos (width_of rest)) in
    let whole : n * 2 ^ f.0 < 18446744073709551616 = omega (arith, packed_lt fields fit, pow_below (width_of fields) 64 room) in
    rw (mod-eq_of_lt whole) (or_shifted n f.0 f.1 p.fit.0)

pub packing-next : (n : ℕ) (f : ℕ × ℕ) (rest fields : List (ℕ × ℕ)) → FitWidths fields → width_of fields < 64 → IsPacking n (f ∷ rest) fields → IsPacking (bit_or (n * 2 ^ f.0 % 18446744073709551616) f.1) rest fields
packing-next n f rest fields fit room p =
    rw (shifted_in n f rest fields fit room p) record {
      value = sym (packed-step n f rest) ∙ p.value;
      fit = p.fit.1;
      room = let r = p.room in omega arith;
    }

-- the sum of the widths
abbrev pub total : List ℕ → ℕ
total [] = 0
total (w ∷ ws) = w + total ws

-- a number, taken apart into fields of these widths
abbrev pub unpacked : List ℕ → ℕ → List (ℕ × ℕ)
unpacked [] n = []
unpacked (w ∷ ws) n = (w, n / 2 ^ total ws % 2 ^ w) ∷ unpacked ws n

-- the widths of fields
abbrev pub widths : List (ℕ × ℕ) → List ℕ
widths [] = []
widths (f ∷ fs) = f.0 ∷ widths fs

pub total-widths : (fs : List (ℕ × ℕ)) → total (widths fs) ≡ width_of fs
total-widths [] = refl
total-widths (f ∷ fs) = ap (λ n. f.0 + n) (total-widths fs)

pub width_of-unpacked : (ws : List ℕ) (n : ℕ) → width_of (unpacked ws n) ≡ total ws
width_of-unpacked [] n = refl
width_of-unpacked (w ∷ ws) n = ap (λ k. w + k) (width_of-unpacked ws n)

-- a field doesn't depend on the bits above it
mod-above : (a b j k : ℕ) → j ≤ k → (a * 2 ^ k + b) % 2 ^ j ≡ b % 2 ^ j
mod-above a b j k h =
    let parts : k ≡ (k - j) + j = omega arith in
    rw (parts, pow-add 2 (k - j) j, ← mul_assoc a (2 ^ (k - j)) (2 ^ j)) (mul-add-mod_self_right (a * 2 ^ (k - j)) (2 ^ j) b)

field-above : (a b s w k : ℕ) → w + s ≤ k → (a * 2 ^ k + b) / 2 ^ s % 2 ^ w ≡ b / 2 ^ s % 2 ^ w
field-above a b s w k h =
    sym (field_of (a * 2 ^ k + b) w s) ∙ ap (λ n. n / 2 ^ s) (mod-above a b (w + s) k h) ∙ field_of b w s

pub unpacked-above : (ws : List ℕ) (k a b : ℕ) → total ws ≤ k → unpacked ws (a * 2 ^ k + b) ≡ unpacked ws b
unpacked-above [] k a b h = refl
unpacked-above (w ∷ ws) k a b h =
    let below : total ws ≤ k = omega arith in
    rw (field-above a b (total ws) w k h, unpacked-above ws k a b below) refl

-- fields come back from the number in which they are packed
pub unpacked-packed : (fs : List (ℕ × ℕ)) → FitWidths fs → unpacked (widths fs) (packed fs) ≡ fs
unpacked-packed [] h = refl
unpacked-packed (f ∷ fs) h =
    let top : (f.1 * 2 ^ width_of fs + packed fs) / 2 ^ total (widths fs) % 2 ^ f.0 ≡ f.1 =
    rw (total-widths fs, shr_high f.1 (width_of fs) (packed fs) (packed_lt fs h.1), mod-eq_of_lt h.0) refl in
    let low : total (widths fs) ≤ width_of fs = omega (arith, total-widths fs) in
    rw (top, unpacked-above (widths fs) (width_of fs) f.1 (packed fs) low, unpacked-packed fs h.1) refl

-- a number comes back from its fields
pub packed-unpacked : (ws : List ℕ) (n : ℕ) → packed (unpacked ws n) ≡ n % 2 ^ total ws
packed-unpacked [] n = sym (mod-one n)
packed-unpacked (w ∷ ws) n =
    rw (width_of-unpacked ws n, packed-unpacked ws n) (sym (mod-pow-add n w (total ws)))
