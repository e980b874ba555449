-- The generator's terms are x^16, x^12, x^5 and 1. So what bits leave with sixteen zeros after them is the sum of what
-- they leave with twelve zeros after them, with five and with none. By squaring, the same holds for a power of two times
-- these numbers.
use Rattle.std.proofs.Common.{◌≡◌, ℕ, zero, suc, ◌+◌, ◌-◌, ◌*◌, ◌^◌, Bool, true, false, List, [], ◌∷◌, ◌++◌, length, replicate, refl, sym, ◌∙◌, ap, subst, arith, bit_xor, append_assoc}
use Rattle.std.specs.Simd.Lanes.{zip2}
use Rattle.std.proofs.lemmas.List.{length-append, length-replicate}
use Rattle.std.proofs.Math.Nat.{pow-suc, mul_assoc, mul_comm}
use Rattle.sl_fields.specs.Fecf.{bits_of, plus_bits, fecf_of}
use Rattle.sl_fields.specs.FecfFolds.{part_of, plus_octets, with_run_at, RunsMayMove}
use Rattle.sl_fields.proofs.FecfParts.{left_over, left_over-nil, left_over-append, left_over-plus, left_over-more, part-left_over, part-zeros, part-append, part-none, part-plus, preset_by_84_CF}
use Rattle.sl_fields.proofs.Xor.{xor_none, xor_sums, xor_moved, xor_threes}

-- Numbers of which each is the sum of three earlier ones: 4, 11 and 16 places before, or a multiple of these.
pub record Recurs (times : ℕ) (f : ℕ → ℕ) : Type 0 where
  pub law : (n : ℕ) → f (16 * times + n) ≡ bit_xor (f (12 * times + n)) (bit_xor (f (5 * times + n)) (f n))

xor_square : (a b c d e f : ℕ) → bit_xor (bit_xor a (bit_xor b c)) (bit_xor (bit_xor b (bit_xor d e)) (bit_xor c (bit_xor e f))) ≡ bit_xor a (bit_xor d f)
xor_square a b c d e f = simp xor_sums

-- by squaring
doubled : (times : ℕ) (f : ℕ → ℕ) → Recurs times f → Recurs (2 * times) f
doubled times f h = record {
  law = λ n.
      let n32 : 16 * (2 * times) + n ≡ 16 * times + (16 * times + n) = omega arith in
      let n28 : 12 * times + (16 * times + n) ≡ 16 * times + (12 * times + n) = omega arith in
      let n24 : 12 * (2 * times) + n ≡ 12 * times + (12 * times + n) = omega arith in
      let n21 : 5 * times + (16 * times + n) ≡ 16 * times + (5 * times + n) = omega arith in
      let n17 : 12 * times + (5 * times + n) ≡ 5 * times + (12 * times + n) = omega arith in
      let n10 : 5 * (2 * times) + n ≡ 5 * times + (5 * times + n) = omega arith in
      rw (n32, h.law (16 * times + n), n28, n21, h.law (12 * times + n), h.law (5 * times + n), h.law n, n24, n17, n10)
      (xor_square (f (12 * times + (12 * times + n))) (f (5 * times + (12 * times + n))) (f (12 * times + n)) (f (5 * times + (5 * times + n))) (f (5 * times + n)) (f n));
}

pub powers : (power times : ℕ) (f : ℕ → ℕ) → Recurs times f → Recurs (times * 2 ^ power) f
powers zero times f h = subst (λ n. Recurs n f) (omega arith) h
powers (suc power) times f h =
    let more : 2 * (times * 2 ^ power) ≡ times * 2 ^ suc power = mul_comm 2 (times * 2 ^ power) ∙ mul_assoc times (2 ^ power) 2 ∙ ap (λ k. times * k) (sym (pow-suc 2 power)) in
    subst (λ n. Recurs n f) more (doubled (times * 2 ^ power) f (powers power times f h))

-- a bit

-- The generator is divided to zeros, so the parts of its four terms cancel out.
one_recurs : (n : ℕ) → left_over (16 + n) (true ∷ []) ≡ bit_xor (left_over (12 + n) (true ∷ [])) (bit_xor (left_over (5 + n) (true ∷ [])) (left_over n (true ∷ [])))
one_recurs n =
    let one = replicate 16 false in
    let x16 = true ∷ one in
    let x12 = false ∷ (false ∷ (false ∷ (false ∷ (true ∷ replicate 12 false)))) in
    let x5 = replicate 11 false ++ (true ∷ replicate 5 false) in
    let x0 = replicate 16 false ++ (true ∷ []) in
    let gone : 0 ≡ left_over n (plus_bits x16 (plus_bits x12 (plus_bits x5 x0))) = sym (left_over-nil n) in
    let sum = gone ∙ left_over-plus n x16 (plus_bits x12 (plus_bits x5 x0)) refl
    ∙ ap (bit_xor (left_over n x16)) (left_over-plus n x12 (plus_bits x5 x0) refl
    ∙ ap (bit_xor (left_over n x12)) (left_over-plus n x5 x0 refl)) in
    left_over-more 16 n (true ∷ [])
    ∙ xor_moved 0 (left_over n x16) (bit_xor (left_over n x12) (bit_xor (left_over n x5) (left_over n x0))) sum
    ∙ ap (λ k. bit_xor k (bit_xor (left_over n x5) (left_over n x0))) (sym (left_over-more 12 n (true ∷ [])))
    ∙ ap (λ k. bit_xor (left_over (12 + n) (true ∷ [])) (bit_xor k (left_over n x0))) (sym (left_over-more 5 n (true ∷ [])))

pub bits_recur : (bits : List Bool) (n : ℕ) → left_over (16 + n) bits ≡ bit_xor (left_over (12 + n) bits) (bit_xor (left_over (5 + n) bits) (left_over n bits))
bits_recur [] n = rw (left_over-nil (16 + n), left_over-nil (12 + n), left_over-nil (5 + n), left_over-nil n) refl
bits_recur (false ∷ bits) n = bits_recur bits n
bits_recur (true ∷ bits) n =
    let one = true ∷ [] in
    let k = length bits in
    let a : k + (16 + n) ≡ 16 + (k + n) = omega arith in
    let b : k + (12 + n) ≡ 12 + (k + n) = omega arith in
    let c : k + (5 + n) ≡ 5 + (k + n) = omega arith in
    rw (left_over-append (16 + n) one bits, left_over-append (12 + n) one bits, left_over-append (5 + n) one bits, left_over-append n one bits, a, b, c, one_recurs (k + n), bits_recur bits n)
    (xor_threes (left_over (12 + (k + n)) one) (left_over (5 + (k + n)) one) (left_over (k + n) one) (left_over (12 + n) bits) (left_over (5 + n) bits) (left_over n bits))

-- octets

pub part-recurs : (power later : ℕ) (octets : List ℕ) → part_of (16 * 2 ^ power + later) octets ≡ bit_xor (part_of (12 * 2 ^ power + later) octets) (bit_xor (part_of (5 * 2 ^ power + later) octets) (part_of later octets))
part-recurs power later octets =
    let bits = bits_of octets in
    let base : Recurs 1 (λ n. left_over n bits) = record { law = bits_recur bits } in
    let h = powers power 8 (λ n. left_over n bits) (powers 3 1 (λ n. left_over n bits) base) in
    let a : 8 * (16 * 2 ^ power + later) ≡ 16 * (8 * 2 ^ power) + 8 * later = omega arith in
    let b : 8 * (12 * 2 ^ power + later) ≡ 12 * (8 * 2 ^ power) + 8 * later = omega arith in
    let c : 8 * (5 * 2 ^ power + later) ≡ 5 * (8 * 2 ^ power) + 8 * later = omega arith in
    rw (part-left_over (16 * 2 ^ power + later) octets, part-left_over (12 * 2 ^ power + later) octets, part-left_over (5 * 2 ^ power + later) octets, part-left_over later octets, a, b, c)
    (h.law (8 * later))

-- ---- a run of octets that is added to later ones

plus-zip : (added octets : List ℕ) (n : ℕ) → length added + n ≡ length octets → plus_octets added octets ≡ zip2 bit_xor (added ++ replicate n 0) octets
plus-zip [] [] n e = let none : n ≡ 0 = omega arith in rw none refl
plus-zip [] (o ∷ octets) zero e = absurd (omega arith)
plus-zip [] (o ∷ octets) (suc n) e = ap (λ rest. o ∷ rest) (plus-zip [] octets n (omega arith))
plus-zip (a ∷ added) [] n e = absurd (omega arith)
plus-zip (a ∷ added) (o ∷ octets) n e = ap (λ rest. bit_xor a o ∷ rest) (plus-zip added octets n (omega arith))

length-plus : (added octets : List ℕ) → length (plus_octets added octets) ≡ length octets
length-plus [] octets = refl
length-plus (a ∷ added) [] = refl
length-plus (a ∷ added) (o ∷ octets) = ap suc (length-plus added octets)

-- the run adds its own part, from its new place
part-with_run : (place after : ℕ) (run octets : List ℕ) → place + length run + after ≡ length octets → part_of 0 (with_run_at place run octets) ≡ bit_xor (part_of after run) (part_of 0 octets)
part-with_run place after run octets e =
    let added = replicate place 0 ++ run in
    let long : length added ≡ place + length run = omega (arith, length-append (replicate {A = ℕ} place 0) run, length-replicate {A = ℕ} place 0) in
    let behind : length (replicate {A = ℕ} after 0) + 0 ≡ after = omega (arith, length-replicate {A = ℕ} after 0) in
    let same : length (added ++ replicate after 0) ≡ length octets = omega (arith, length-append added (replicate after 0), length-replicate {A = ℕ} after 0) in
    ap (part_of 0) (plus-zip added octets after (omega arith))
    ∙ part-plus 0 (added ++ replicate after 0) octets same
    ∙ ap (λ n. bit_xor n (part_of 0 octets))
    (part-append 0 added (replicate after 0)
    ∙ rw (behind, part-none 0 after, part-zeros after place run) (xor_none (part_of after run)))

xor_run : (a b c d : ℕ) → bit_xor a (bit_xor b (bit_xor c d)) ≡ bit_xor (bit_xor a (bit_xor b c)) d
xor_run a b c d = simp xor_sums

moved : (n power after : ℕ) (before run rest : List ℕ) → n ≡ 2 ^ power → 16 * n + after ≡ length rest → part_of 0 (before ++ (run ++ rest)) ≡ part_of 0 (before ++ with_run_at (4 * n) run (with_run_at (11 * n) run (with_run_at (16 * n) run (replicate (length run) 0 ++ rest))))
moved n power after before run rest is e =
    let recurs : part_of (16 * n + after) run ≡ bit_xor (part_of (12 * n + after) run) (bit_xor (part_of (5 * n + after) run) (part_of after run)) = rw is (part-recurs power after run) in
    let without = replicate (length run) 0 ++ rest in
    let one = with_run_at (16 * n) run without in
    let two = with_run_at (11 * n) run one in
    let three = with_run_at (4 * n) run two in
    let long : length without ≡ length run + length rest = omega (arith, length-append (replicate {A = ℕ} (length run) 0) rest, length-replicate {A = ℕ} (length run) 0) in
    let long_one : length one ≡ length without = length-plus (replicate (16 * n) 0 ++ run) without in
    let long_two : length two ≡ length one = length-plus (replicate (11 * n) 0 ++ run) one in
    let same : length (run ++ rest) ≡ length three = omega (arith, length-append run rest, length-plus (replicate (4 * n) 0 ++ run) two) in
    let part : part_of 0 (run ++ rest) ≡ part_of 0 three =
    part-append 0 run rest
    ∙ ap (λ k. bit_xor (part_of k run) (part_of 0 rest)) (omega arith)
    ∙ ap (λ k. bit_xor k (part_of 0 rest)) recurs
    ∙ sym (part-with_run (4 * n) (12 * n + after) run two (omega arith)
    ∙ ap (bit_xor (part_of (12 * n + after) run)) (part-with_run (11 * n) (5 * n + after) run one (omega arith)
    ∙ ap (bit_xor (part_of (5 * n + after) run)) (part-with_run (16 * n) after run without (omega arith)
    ∙ ap (bit_xor (part_of after run)) (part-zeros 0 (length run) rest)))
    ∙ xor_run (part_of (12 * n + after) run) (part_of (5 * n + after) run) (part_of after run) (part_of 0 rest)) in
    part-append 0 before (run ++ rest)
    ∙ ap (λ k. bit_xor (part_of (k + 0) before) (part_of 0 (run ++ rest))) same
    ∙ ap (bit_xor (part_of (length three + 0) before)) part
    ∙ sym (part-append 0 before three)

pub runs_may_move : RunsMayMove
runs_may_move n power before run rest is within =
    let after = length rest - 16 * n in
    ap fecf_of (append_assoc before run rest)
    ∙ preset_by_84_CF (before ++ (run ++ rest))
    ∙ moved n power after (0x84 ∷ (0xCF ∷ before)) run rest is (omega arith)
    ∙ sym (preset_by_84_CF (before ++ with_run_at (4 * n) run (with_run_at (11 * n) run (with_run_at (16 * n) run (replicate (length run) 0 ++ rest)))))
