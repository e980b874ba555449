-- A message whose slices are added to later ones. The last four sums are kept: each is a slice of the message with what
-- the earlier sums add to it.
use Rattle.std.proofs.Common.{◌≡◌, ℕ, zero, suc, ◌+◌, ◌-◌, ◌*◌, ◌/◌, ◌%◌, ◌<◌, ◌≤◌, List, [], ◌∷◌, ◌++◌, length, take, drop, map, get_or, replicate, ◌||◌, nat_le, nat_lt, rules, w8, refl, sym, ◌∙◌, ap, subst, arith, bit_xor, append-nil, append_assoc}
use Rattle.std.specs.List.{concat, range_with_len}
use Rattle.std.specs.Simd.{first_chunks}
use Rattle.std.specs.Simd.Lanes.{zip2, pick_l, Each1}
use Rattle.std.proofs.lemmas.List.{length-take, length-drop, take-append-drop, take_all, take_more, drop-drop, get_or-take, get_or-drop}
use Rattle.std.proofs.lemmas.List.Folds.{concat-append}
use Rattle.std.proofs.lemmas.List.FromFn.{get_or-map-range_with_len}
use Rattle.std.proofs.lemmas.Simd.{swz_l, pick_l_whole, SwzOk, SwzOk-from_Each1, Each1-chunk}
use Rattle.std.proofs.Math.Dec.{T}
use Rattle.sl_fields.specs.Fecf.{fecf_of}
use Rattle.sl_fields.specs.FecfFolds.{part_of, first_two_of, plus_octets, head_of}
use Rattle.sl_fields.proofs.FecfParts.{part-append, part-none, part-zeros, preset_by_84_CF, preset_by_inverses}
use Rattle.sl_fields.proofs.FecfRecurrence.{part-recurs}
use Rattle.sl_fields.proofs.FecfSlices.{zero_slice, slices, length-sum, length-across, part-cut, part-two, part-four}
use Rattle.sl_fields.proofs.Xor.{xor_sums}

-- the next sum, where `a` to `d` are `oldest` to `newest` of folds.rt
abbrev pub next_sum : List ℕ → List ℕ → List ℕ → List ℕ → List ℕ → List ℕ
next_sum a b c d slice = zip2 bit_xor (zip2 bit_xor (zip2 bit_xor a (drop 4 b ++ take 4 c)) d) slice

-- the last four sums, without what they add to each other
abbrev pub without_sums : List ℕ → List ℕ → List ℕ → List ℕ → List ℕ
without_sums a b c d =
    a ++ (zip2 bit_xor b a ++ (zip2 bit_xor (zip2 bit_xor c b) (drop 4 zero_slice ++ take 4 a) ++ zip2 bit_xor (zip2 bit_xor d c) (drop 4 a ++ take 4 b)))

-- The part of these four sums without what they add to each other. `a` begins 64 octets before the end, and 48 octets
-- come after it. It was added 16 and 44 places later, where 32 and 4 octets come after it. Of `b`, the first four
-- octets alone can be added 44 places later.
abbrev held : ℕ → List ℕ → List ℕ → List ℕ → List ℕ → ℕ
held later a b c d =
    bit_xor (bit_xor (part_of (48 + later) a) (bit_xor (part_of (32 + later) a) (part_of (4 + later) a)))
    (bit_xor (bit_xor (part_of (32 + later) b) (bit_xor (part_of (16 + later) b) (part_of later (take 4 b))))
    (bit_xor (bit_xor (part_of (16 + later) c) (part_of later c)) (part_of later d)))

-- the message has the remainder of these four sums without what they add to each other
pub record Holds (message a b c d : List ℕ) : Type 0 where
  pub long_a : length a ≡ 16
  pub long_b : length b ≡ 16
  pub long_c : length c ≡ 16
  pub long_d : length d ≡ 16
  pub part : (later : ℕ) → part_of later message ≡ held later a b c d

-- In these sums, a letter and a number are the part of the slice of this letter, or of a piece of it, where so many
-- octets come after the slice or piece (and `later` more).

xor_first : (p16 p q : ℕ) → bit_xor p16 q ≡ bit_xor (bit_xor p16 p) (bit_xor p q)
xor_first p16 p q = simp xor_sums

pub holds-first : (p q : List ℕ) → length p ≡ 16 → length q ≡ 16 → Holds (p ++ q) zero_slice zero_slice p (zip2 bit_xor p q)
holds-first p q long_p long_q = record {
  long_a = refl;
  long_b = refl;
  long_c = long_p;
  long_d = length-sum p q long_p long_q;
  part = λ later.
      let sum : part_of later (zip2 bit_xor p q) ≡ bit_xor (part_of later p) (part_of later q) = simp (slices, long_p, long_q) in
      rw (part-two later p q long_q, part-none (48 + later) 16, part-none (32 + later) 16, part-none (16 + later) 16, part-none (4 + later) 16, part-none later 4, sum)
      (xor_first (part_of (16 + later) p) (part_of later p) (part_of later q));
}

xor_slice : (a48 a20 a0 b48 b32 b16 b4 c32 c16 c0 d16 d0 s : ℕ)
    → bit_xor (bit_xor (bit_xor (bit_xor a48 (bit_xor a20 a0)) (bit_xor a48 a20)) (bit_xor (bit_xor b48 (bit_xor b32 b16)) (bit_xor (bit_xor c32 c16) d16))) s
    ≡ bit_xor (bit_xor b48 (bit_xor b32 (bit_xor b16 b4))) (bit_xor (bit_xor c32 (bit_xor c16 c0)) (bit_xor (bit_xor d16 d0) (bit_xor (bit_xor (bit_xor a0 (bit_xor b4 c0)) d0) s)))
xor_slice a48 a20 a0 b48 b32 b16 b4 c32 c16 c0 d16 d0 s = simp xor_sums

pub holds-slice : (message a b c d slice : List ℕ) → length slice ≡ 16 → Holds message a b c d → Holds (message ++ slice) b c d (next_sum a b c d slice)
holds-slice message a b c d slice long h =
    let long_one : length (zip2 bit_xor a (drop 4 b ++ take 4 c)) ≡ 16 = simp (length-sum, length-across, h.long_a, h.long_b, h.long_c) in
    let long_two : length (zip2 bit_xor (zip2 bit_xor a (drop 4 b ++ take 4 c)) d) ≡ 16 = simp (length-sum, long_one, h.long_d) in
    record {
      long_a = h.long_b;
      long_b = h.long_c;
      long_c = h.long_d;
      long_d = simp (length-sum, long_two, long);
      part = λ later.
          let sum : part_of later (next_sum a b c d slice) ≡ bit_xor (bit_xor (bit_xor (part_of later a) (bit_xor (part_of (4 + later) (drop 4 b)) (part_of later (take 4 c)))) (part_of later d)) (part_of later slice) =
          simp (slices, h.long_a, h.long_b, h.long_c, h.long_d, long, long_one, long_two) in
          let n64 : 48 + (16 + later) ≡ 64 + later = omega arith in
          let n48 : 32 + (16 + later) ≡ 48 + later = omega arith in
          let n20 : 4 + (16 + later) ≡ 20 + later = omega arith in
          let n32 : 16 + (16 + later) ≡ 32 + later = omega arith in
          let n16 : 12 + (4 + later) ≡ 16 + later = omega arith in
          let recurs : part_of (64 + later) a ≡ bit_xor (part_of (48 + later) a) (bit_xor (part_of (20 + later) a) (part_of later a)) = part-recurs 2 later a in
          let cut : part_of (4 + later) b ≡ bit_xor (part_of (12 + (4 + later)) (take 4 b)) (part_of (4 + later) (drop 4 b)) = part-cut 4 12 (4 + later) b refl h.long_b in
          rw (part-append later message slice, long, h.part (16 + later), sum, n64, n48, n20, n32, recurs, cut, n16)
          (xor_slice (part_of (48 + later) a) (part_of (20 + later) a) (part_of later a) (part_of (48 + later) b) (part_of (32 + later) b) (part_of (16 + later) (take 4 b)) (part_of (4 + later) (drop 4 b)) (part_of (32 + later) c) (part_of (16 + later) c) (part_of later (take 4 c)) (part_of (16 + later) d) (part_of later d) (part_of later slice));
    }

xor_four : (a48 a32 a16 a4 b32 b16 b0 c16 c0 d0 : ℕ)
    → bit_xor a48 (bit_xor (bit_xor b32 a32) (bit_xor (bit_xor (bit_xor c16 b16) a16) (bit_xor (bit_xor d0 c0) (bit_xor a4 b0))))
    ≡ bit_xor (bit_xor a48 (bit_xor a32 (bit_xor a16 a4))) (bit_xor (bit_xor b32 (bit_xor b16 b0)) (bit_xor (bit_xor c16 c0) d0))
xor_four a48 a32 a16 a4 b32 b16 b0 c16 c0 d0 = simp xor_sums

pub holds-four : (message a b c d : List ℕ) → Holds message a b c d → part_of 0 (without_sums a b c d) ≡ part_of 0 message
holds-four message a b c d h =
    let long_ba = length-sum b a h.long_b h.long_a in
    let long_cb = length-sum c b h.long_c h.long_b in
    let long_dc = length-sum d c h.long_d h.long_c in
    let third = zip2 bit_xor (zip2 bit_xor c b) (drop 4 zero_slice ++ take 4 a) in
    let fourth = zip2 bit_xor (zip2 bit_xor d c) (drop 4 a ++ take 4 b) in
    let long_third : length third ≡ 16 = simp (length-sum, length-across, long_cb, h.long_a) in
    let long_fourth : length fourth ≡ 16 = simp (length-sum, length-across, long_dc, h.long_a, h.long_b) in
    let second_is : part_of 32 (zip2 bit_xor b a) ≡ bit_xor (part_of 32 b) (part_of 32 a) = simp (slices, h.long_a, h.long_b) in
    let third_is : part_of 16 third ≡ bit_xor (bit_xor (part_of 16 c) (part_of 16 b)) (part_of 16 (take 4 a)) = simp (slices, h.long_a, h.long_b, h.long_c, long_cb) in
    let fourth_is : part_of 0 fourth ≡ bit_xor (bit_xor (part_of 0 d) (part_of 0 c)) (bit_xor (part_of 4 (drop 4 a)) (part_of 0 (take 4 b))) = simp (slices, h.long_a, h.long_b, h.long_c, h.long_d, long_dc) in
    let cut : part_of 4 a ≡ bit_xor (part_of 16 (take 4 a)) (part_of 4 (drop 4 a)) = part-cut 4 12 4 a refl h.long_a in
    rw (h.part 0, part-four 0 a (zip2 bit_xor b a) third fourth long_ba long_third long_fourth, second_is, third_is, fourth_is, cut)
    (xor_four (part_of 48 a) (part_of 32 a) (part_of 16 (take 4 a)) (part_of 4 (drop 4 a)) (part_of 32 b) (part_of 16 b) (part_of 0 (take 4 b)) (part_of 16 c) (part_of 0 c) (part_of 0 d))

-- ---- the octets before the slices

-- the constants `PRESET` and `PLACES`
abbrev preset_octets : List ℕ
preset_octets = replicate 30 0 ++ 0x84 ∷ (0xCF ∷ replicate 16 0)

abbrev place_octets : List ℕ
place_octets = replicate 16 128 ++ range_with_len 0 16

-- sixteen octets of a constant of `long` octets, from the place `n` on
abbrev pub piece : ℕ → ℕ → List ℕ → List ℕ
piece n long constant = take 16 (take (long - n) (drop n constant))

-- The two slices by the look-up, where the message begins with these sixteen octets, and `n` of them stand before its
-- slices.
abbrev looked_up : List ℕ → List ℕ → ℕ → List ℕ → List ℕ
looked_up preset places n sixteen = piece n 48 preset ++ zip2 bit_xor (piece (n + 16) 48 preset) (swz_l w8 16 sixteen 0 (piece n 32 places))

abbrev padded : ℕ → List ℕ → List ℕ
padded n sixteen = replicate (30 - n) 0 ++ 0x84 ∷ (0xCF ∷ take n sixteen)

-- the first sixteen octets, one by one
abbrev one_by_one : List ℕ → List ℕ
one_by_one octets = pick_l 0 octets (range_with_len 0 16)

all_looked_up : (octets : List ℕ) → map (λ n. looked_up preset_octets place_octets n (one_by_one octets)) (range_with_len 0 16) ≡ map (λ n. padded n (one_by_one octets)) (range_with_len 0 16)
all_looked_up octets = refl

pub first_two : (preset places : List ℕ) → preset ≡ preset_octets → places ≡ place_octets → (n : ℕ) (sixteen : List ℕ) → n < 16 → length sixteen ≡ 16 → looked_up preset places n sixteen ≡ padded n sixteen
first_two preset places is_preset are_places n sixteen h long =
    let whole : one_by_one sixteen ≡ sixteen = pick_l_whole 0 sixteen 16 long in
    let at : (f : ℕ → List ℕ) → get_or (map f (range_with_len 0 16)) n [] ≡ f n = λ f. get_or-map-range_with_len f 0 16 n n [] h (omega arith) in
    ap (λ l. looked_up l places n sixteen) is_preset ∙ ap (λ l. looked_up preset_octets l n sixteen) are_places
    ∙ ap (looked_up preset_octets place_octets n) (sym whole) ∙ sym (at (λ k. looked_up preset_octets place_octets k (one_by_one sixteen)))
    ∙ ap (λ all. get_or all n []) (all_looked_up sixteen)
    ∙ at (λ k. padded k (one_by_one sixteen)) ∙ ap (padded n) whole

-- each place is one of the sixteen, or stands for a zero
abbrev IsPlace : ℕ → Type 0
IsPlace j = T (nat_le 128 j || nat_lt j 16)

are_all_places : Each1 IsPlace place_octets
are_all_places = search rules

pub places_ok : (places : List ℕ) → places ≡ place_octets → (n : ℕ) → SwzOk w8 16 16 0 (piece n 32 places)
places_ok places are_places n =
    let short : 0 + length (piece n 32 places) ≤ 16 = omega (arith, length-take 16 (take (32 - n) (drop n places))) in
    SwzOk-from_Each1 w8 16 1 16 0 (piece n 32 places) refl short
    (Each1-chunk IsPlace 0 16 (take (32 - n) (drop n places)) (Each1-chunk IsPlace n (32 - n) places (subst (Each1 IsPlace) (sym are_places) are_all_places)))

-- ---- the slices of a message, one after another

abbrev pub slices_of : List ℕ → List (List ℕ)
slices_of octets = first_chunks 16 (length octets / 16) (drop (length octets % 16) octets)

-- the padded message as far as this many slices
abbrev pub up_to : List ℕ → ℕ → List ℕ
up_to octets count = first_two_of octets ++ concat (take count (slices_of octets))

length-chunks : (size count : ℕ) (octets : List ℕ) → length (first_chunks size count octets) ≡ count
length-chunks size zero octets = refl
length-chunks size (suc count) octets = ap suc (length-chunks size count (drop size octets))

length-chunk : (size count i : ℕ) (octets : List ℕ) → length octets ≡ count * size → i < count → length (get_or (first_chunks size count octets) i []) ≡ size
length-chunk size zero i octets e h = absurd (omega arith)
length-chunk size (suc count) zero octets e h =
    let more : suc count * size ≡ size + count * size = omega arith in
    omega (arith, length-take size octets)
length-chunk size (suc count) (suc i) octets e h =
    let more : suc count * size ≡ size + count * size = omega arith in
    length-chunk size count i (drop size octets) (omega (arith, length-drop size octets)) (omega arith)

chunks-joined : (size count : ℕ) (octets : List ℕ) → length octets ≡ count * size → concat (first_chunks size count octets) ≡ octets
chunks-joined size zero [] e = refl
chunks-joined size zero (octet ∷ octets) e = absurd (omega arith)
chunks-joined size (suc count) octets e =
    let more : suc count * size ≡ size + count * size = omega arith in
    ap (λ rest. take size octets ++ rest) (chunks-joined size count (drop size octets) (omega (arith, length-drop size octets))) ∙ take-append-drop size octets

length-sliced : (octets : List ℕ) → length (drop (length octets % 16) octets) ≡ length octets / 16 * 16
length-sliced octets = omega (arith, length-drop (length octets % 16) octets)

pub holds-more : (octets : List ℕ) (i j : ℕ) (a b c d slice : List ℕ) → j ≡ i + 1 → i < length octets / 16 → get_or (slices_of octets) i [] ≡ slice → Holds (up_to octets i) a b c d → Holds (up_to octets j) b c d (next_sum a b c d slice)
holds-more octets i j a b c d slice next h is so_far =
    let slices = slices_of octets in
    let count = length octets / 16 in
    let long : length slice ≡ 16 = ap length (sym is) ∙ length-chunk 16 count i (drop (length octets % 16) octets) (length-sliced octets) h in
    let more : concat (take (i + 1) slices) ≡ concat (take i slices) ++ slice = ap concat (take_more slices i [] (omega (arith, length-chunks 16 count (drop (length octets % 16) octets)))) ∙ concat-append (take i slices) (get_or slices i [] ∷ []) ∙ ap (λ rest. concat (take i slices) ++ rest) (append-nil (get_or slices i []) ∙ is) in
    rw (next, more, ← append_assoc (first_two_of octets) (concat (take i slices)) slice) (holds-slice (up_to octets i) a b c d slice long so_far)

get_or-chunk : (size count i k : ℕ) (slices : List (List ℕ)) → i < count → k < size → get_or slices (i * size + k) [] ≡ get_or (get_or (first_chunks size count slices) i []) k []
get_or-chunk size zero i k slices h below = absurd (omega arith)
get_or-chunk size (suc count) zero k slices h below = ap (λ n. get_or slices n []) (omega arith) ∙ sym (get_or-take size slices k [] below)
get_or-chunk size (suc count) (suc i) k slices h below =
    let more : suc i * size + k ≡ size + (i * size + k) = omega arith in
    ap (λ n. get_or slices n []) more ∙ sym (get_or-drop size slices (i * size + k) []) ∙ get_or-chunk size count i k (drop size slices) (omega arith) below

-- four slices at once
pub holds-fours : (octets : List ℕ) (i : ℕ) (a b c d : List ℕ) (fours : List (List (List ℕ))) → i < length octets / 16 / 4 → fours ≡ first_chunks 4 (length octets / 16 / 4) (slices_of octets) → Holds (up_to octets (i * 4)) a b c d
    → (let four = get_or fours i [] in
    let e = next_sum a b c d (get_or four 0 []) in
    let f = next_sum b c d e (get_or four 1 []) in
    let g = next_sum c d e f (get_or four 2 []) in
    Holds (up_to octets ((i + 1) * 4)) e f g (next_sum d e f g (get_or four 3 [])))
holds-fours octets i a b c d fours h is so_far =
    let four = get_or fours i [] in
    let count = length octets / 16 / 4 in
    let at : (k : ℕ) → k < 4 → get_or (slices_of octets) (i * 4 + k) [] ≡ get_or four k [] = λ k below. get_or-chunk 4 count i k (slices_of octets) h below ∙ ap (λ all. get_or (get_or all i []) k []) (sym is) in
    let e = next_sum a b c d (get_or four 0 []) in
    let f = next_sum b c d e (get_or four 1 []) in
    let g = next_sum c d e f (get_or four 2 []) in
    let start : i * 4 ≡ i * 4 + 0 = omega arith in
    let one = holds-more octets (i * 4 + 0) (i * 4 + 1) a b c d (get_or four 0 []) (omega arith) (omega arith) (at 0 (omega arith)) (rw (← start) so_far) in
    let two = holds-more octets (i * 4 + 1) (i * 4 + 2) b c d e (get_or four 1 []) (omega arith) (omega arith) (at 1 (omega arith)) one in
    let three = holds-more octets (i * 4 + 2) (i * 4 + 3) c d e f (get_or four 2 []) (omega arith) (omega arith) (at 2 (omega arith)) two in
    holds-more octets (i * 4 + 3) ((i + 1) * 4) d e f g (get_or four 3 []) (omega arith) (omega arith) (at 3 (omega arith)) three

-- the whole padded message has the field for its remainder
pub up_to-all : (octets : List ℕ) (count : ℕ) → length octets / 16 ≤ count → part_of 0 (up_to octets count) ≡ fecf_of octets
up_to-all octets count all =
    let n = length octets % 16 in
    let slices = slices_of octets in
    let whole : concat (take count slices) ≡ drop n octets = ap concat (take_all count slices (omega (arith, length-chunks 16 (length octets / 16) (drop n octets)))) ∙ chunks-joined 16 (length octets / 16) (drop n octets) (length-sliced octets) in
    ap (λ l. part_of 0 (first_two_of octets ++ l)) whole
    ∙ ap (part_of 0) (append_assoc (replicate (30 - n) 0) (0x84 ∷ (0xCF ∷ take n octets)) (drop n octets))
    ∙ part-zeros 0 (30 - n) (0x84 ∷ (0xCF ∷ (take n octets ++ drop n octets)))
    ∙ ap (λ l. part_of 0 (0x84 ∷ (0xCF ∷ l))) (take-append-drop n octets)
    ∙ sym (preset_by_84_CF octets)

-- ---- few octets: the last slices, behind one of the octets before them

-- the constant `INVERSES`
abbrev inverse_octets : List ℕ
inverse_octets = replicate 16 0 ++ 0xFF ∷ (0xFF ∷ replicate 14 0)

-- the slice by the look-up
abbrev looked_up_head : List ℕ → List ℕ → ℕ → List ℕ → List ℕ
looked_up_head inverses places n sixteen = zip2 bit_xor (piece n 32 inverses) (swz_l w8 16 sixteen 0 (piece n 32 places))

all_heads : (octets : List ℕ) → map (λ n. looked_up_head inverse_octets place_octets n (one_by_one octets)) (range_with_len 2 15) ≡ map (λ n. head_of n (one_by_one octets)) (range_with_len 2 15)
all_heads octets = refl

pub head_looked_up : (inverses places : List ℕ) → inverses ≡ inverse_octets → places ≡ place_octets → (n : ℕ) (sixteen : List ℕ) → 2 ≤ n → n ≤ 16 → length sixteen ≡ 16 → looked_up_head inverses places n sixteen ≡ head_of n sixteen
head_looked_up inverses places are_inverses are_places n sixteen least most long =
    let whole : one_by_one sixteen ≡ sixteen = pick_l_whole 0 sixteen 16 long in
    let below : n - 2 < 15 = omega arith in
    let at : (f : ℕ → List ℕ) → get_or (map f (range_with_len 2 15)) (n - 2) [] ≡ f n = λ f. get_or-map-range_with_len f 2 15 (n - 2) n [] below (omega arith) in
    ap (λ l. looked_up_head l places n sixteen) are_inverses ∙ ap (λ l. looked_up_head inverse_octets l n sixteen) are_places
    ∙ ap (looked_up_head inverse_octets place_octets n) (sym whole) ∙ sym (at (λ k. looked_up_head inverse_octets place_octets k (one_by_one sixteen)))
    ∙ ap (λ all. get_or all (n - 2) []) (all_heads sixteen)
    ∙ at (λ k. head_of k (one_by_one sixteen)) ∙ ap (head_of n) whole

-- the octets behind the head, as slices
slice_first : (place next : ℕ) (octets : List ℕ) → place + 16 ≡ next → drop place octets ≡ take 16 (drop place octets) ++ drop next octets
slice_first place next octets e =
    sym (take-append-drop 16 (drop place octets)) ∙ ap (λ l. take 16 (drop place octets) ++ l) (drop-drop 16 place octets ∙ ap (λ n. drop n octets) e)

slice_last : (place : ℕ) (octets : List ℕ) → length octets ≡ place + 16 → drop place octets ≡ take 16 (drop place octets)
slice_last place octets e = sym (take_all 16 (drop place octets) (omega (arith, length-drop place octets)))

two_last : (third : ℕ) (octets : List ℕ) → length octets ≡ third + 32 → take 16 (drop third octets) ++ take 16 (drop (third + 16) octets) ≡ drop third octets
two_last third octets long =
    ap (λ l. take 16 (drop third octets) ++ l) (sym (slice_last (third + 16) octets (omega arith))) ∙ sym (slice_first third (third + 16) octets refl)

three_last : (second : ℕ) (octets : List ℕ) → length octets ≡ second + 48
    → take 16 (drop second octets) ++ (take 16 (drop (second + 16) octets) ++ take 16 (drop (second + 32) octets)) ≡ drop second octets
three_last second octets long =
    let next : second + 16 + 16 ≡ second + 32 = omega arith in
    ap (λ n. take 16 (drop second octets) ++ (take 16 (drop (second + 16) octets) ++ take 16 (drop n octets))) (sym next)
    ∙ ap (λ l. take 16 (drop second octets) ++ l) (two_last (second + 16) octets (omega arith)) ∙ sym (slice_first second (second + 16) octets refl)

inverted_front : (n : ℕ) (octets : List ℕ) → 2 ≤ n → n ≤ length octets → part_of 0 (plus_octets (0xFF ∷ (0xFF ∷ [])) (take n octets) ++ drop n octets) ≡ fecf_of octets
inverted_front zero octets least h = absurd (omega arith)
inverted_front (suc zero) octets least h = absurd (omega arith)
inverted_front (suc (suc n)) [] least h = absurd (omega arith)
inverted_front (suc (suc n)) (a ∷ []) least h = absurd (omega arith)
inverted_front (suc (suc n)) (a ∷ (b ∷ octets)) least h =
    ap (λ l. part_of 0 (bit_xor 0xFF a ∷ (bit_xor 0xFF b ∷ l))) (take-append-drop n octets) ∙ sym (preset_by_inverses a b octets)

-- the head and the octets behind it have the remainder of all
head-part : (n : ℕ) (octets : List ℕ) → 2 ≤ n → n ≤ length octets → part_of 0 (head_of n octets ++ drop n octets) ≡ fecf_of octets
head-part n octets least h =
    let front = plus_octets (0xFF ∷ (0xFF ∷ [])) (take n octets) in
    ap (part_of 0) (append_assoc (replicate (16 - n) 0) front (drop n octets))
    ∙ part-zeros 0 (16 - n) (front ++ drop n octets)
    ∙ inverted_front n octets least h

pub two_behind_head : (n : ℕ) (octets : List ℕ) → 2 ≤ n → length octets ≡ n + 32
    → part_of 0 (zero_slice ++ (head_of n octets ++ (take 16 (drop n octets) ++ take 16 (drop (n + 16) octets)))) ≡ fecf_of octets
two_behind_head n octets least long =
    part-zeros 0 16 (head_of n octets ++ (take 16 (drop n octets) ++ take 16 (drop (n + 16) octets)))
    ∙ ap (λ l. part_of 0 (head_of n octets ++ l)) (two_last n octets long) ∙ head-part n octets least (omega arith)

pub three_behind_head : (n : ℕ) (octets : List ℕ) → 2 ≤ n → length octets ≡ n + 48
    → part_of 0 (head_of n octets ++ (take 16 (drop n octets) ++ (take 16 (drop (n + 16) octets) ++ take 16 (drop (n + 32) octets)))) ≡ fecf_of octets
three_behind_head n octets least long =
    ap (λ l. part_of 0 (head_of n octets ++ l)) (three_last n octets long) ∙ head-part n octets least (omega arith)
