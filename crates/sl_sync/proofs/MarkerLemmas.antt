-- Wrong bits of a marker.
use Rattle.std.proofs.Common.{◌≡◌, ℕ, zero, suc, min, ◌∙◌, ◌+◌, ◌*◌, ◌^◌, ◌≤◌, ◌<◌, List, [], ◌∷◌, ◌++◌, length, get_or, drop}
use Rattle.std.proofs.Common.{refl, ap, arith, add-one, drop-cons, length-drop}
use Rattle.std.proofs.lemmas.List.{drop-append-le}
use Rattle.std.proofs.lemmas.Nat.{ones_cat, xor_block, xor_lt}
use Rattle.std.proofs.Math.Seq.{drop-nil}
use Rattle.std.specs.Prelude.{bit_xor, count_ones, nat_le}
use Rattle.sl_sync.specs.Marker.{Marker, first_four, wrong_bits, is_marked}

-- a marker and octets from the i-th on, of which both have one
pub wrong_bits-at : (marker octets : List ℕ) (i : ℕ) → i < length marker → i < length octets
    → wrong_bits (drop i marker) (drop i octets)
    ≡ count_ones (bit_xor (get_or marker i 0) (get_or octets i 0)) + wrong_bits (drop (i + 1) marker) (drop (i + 1) octets)
wrong_bits-at marker octets i h k = rw (add-one, drop-cons marker i 0 h, drop-cons octets i 0 k)

-- nothing is wrong where nothing is
pub wrong_bits-nil : (marker : List ℕ) → wrong_bits marker [] ≡ 0
wrong_bits-nil [] = refl
wrong_bits-nil (m ∷ marker) = refl

-- where the marker or the octets end, no more is wrong
pub wrong_bits-ended : (marker octets : List ℕ) (i : ℕ) → min (length marker) (length octets) ≤ i
    → wrong_bits (drop i marker) (drop i octets) ≡ 0
wrong_bits-ended [] octets i h = ap (λ m. wrong_bits m (drop i octets)) (drop-nil i)
wrong_bits-ended (m ∷ marker) [] i h =
    ap (λ o. wrong_bits (drop i (m ∷ marker)) o) (drop-nil i) ∙ wrong_bits-nil (drop i (m ∷ marker))
wrong_bits-ended (m ∷ marker) (o ∷ octets) zero h = absurd (omega arith)
wrong_bits-ended (m ∷ marker) (o ∷ octets) (suc i) h = wrong_bits-ended marker octets i (omega arith)

-- more octets change nothing where there are as many as the marker has
pub wrong_bits-more : (marker octets more : List ℕ) → length marker ≤ length octets
    → wrong_bits marker (octets ++ more) ≡ wrong_bits marker octets
wrong_bits-more [] octets more h = refl
wrong_bits-more (m ∷ marker) [] more h = absurd (omega arith)
wrong_bits-more (m ∷ marker) (o ∷ octets) more h =
    ap (λ n. count_ones (bit_xor m o) + n) (wrong_bits-more marker octets more (omega arith))

pub is_marked-more : (m : Marker) (octets more : List ℕ) → length m.octets ≤ length octets
    → is_marked m (octets ++ more) ≡ is_marked m octets
is_marked-more m octets more h = ap (λ (w : ℕ). nat_le w m.errors) (wrong_bits-more m.octets octets more h)

-- the same behind some octets
pub is_marked-behind : (m : Marker) (n : ℕ) (octets more : List ℕ) → n + length m.octets ≤ length octets
    → is_marked m (drop n (octets ++ more)) ≡ is_marked m (drop n octets)
is_marked-behind m n octets more h =
    let long : length m.octets ≤ length (drop n octets) = omega (arith, length-drop n octets) in
    ap (λ (s : List ℕ). is_marked m s) (drop-append-le n octets more (omega arith)) ∙ is_marked-more m (drop n octets) more long

-- ---- the first four octets at once

-- the wrong bits of two octets as one number, and of a second number below them
xor_ones : (k a b c d : ℕ) → c < 2 ^ k → d < 2 ^ k
    → count_ones (bit_xor (a * 2 ^ k + c) (b * 2 ^ k + d)) ≡ count_ones (bit_xor a b) + count_ones (bit_xor c d)
xor_ones k a b c d h l = ap count_ones (xor_block k a b c d h l) ∙ ones_cat k (bit_xor a b) (bit_xor c d) (xor_lt k c d h l)

-- as many bits of the first four octets are wrong as of the whole marker, at most
pub front-few : (marker octets : List ℕ) → 4 ≤ length marker → 4 ≤ length octets
    → ((k : ℕ) → get_or marker k 0 < 256) → ((k : ℕ) → get_or octets k 0 < 256)
    → count_ones (bit_xor (first_four marker) (first_four octets)) ≤ wrong_bits marker octets
unfolding first_four
front-few (a ∷ b ∷ c ∷ d ∷ m) (e ∷ f ∷ g ∷ h ∷ o) long longer ours theirs =
    let high = xor_ones 8 a e b f (ours 1) (theirs 1) in
    let low = xor_ones 8 c g d h (ours 3) (theirs 3) in
    let both = xor_ones 16 (a * 256 + b) (e * 256 + f) (c * 256 + d) (g * 256 + h) (omega (arith, ours 2, ours 3)) (omega (arith, theirs 2, theirs 3)) in
    omega (arith, both, high, low)
front-few [] octets long longer ours theirs = absurd (omega arith)
front-few (a ∷ []) octets long longer ours theirs = absurd (omega arith)
front-few (a ∷ b ∷ []) octets long longer ours theirs = absurd (omega arith)
front-few (a ∷ b ∷ c ∷ []) octets long longer ours theirs = absurd (omega arith)
front-few (a ∷ b ∷ c ∷ d ∷ m) [] long longer ours theirs = absurd (omega arith)
front-few (a ∷ b ∷ c ∷ d ∷ m) (e ∷ []) long longer ours theirs = absurd (omega arith)
front-few (a ∷ b ∷ c ∷ d ∷ m) (e ∷ f ∷ []) long longer ours theirs = absurd (omega arith)
front-few (a ∷ b ∷ c ∷ d ∷ m) (e ∷ f ∷ g ∷ []) long longer ours theirs = absurd (omega arith)
