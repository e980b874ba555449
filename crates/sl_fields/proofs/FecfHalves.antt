-- Four slices become two with the same remainder, and two become one: the early half is added to the later half.
use Rattle.std.proofs.Common.{◌≡◌, ℕ, ◌+◌, List, ◌++◌, length, take, drop, refl, sym, ◌∙◌, ap, arith, bit_xor}
use Rattle.std.specs.Simd.Lanes.{zip2}
use Rattle.std.specs.Int.Bits.{xor_assoc}
use Rattle.sl_fields.specs.FecfFolds.{part_of}
use Rattle.sl_fields.proofs.FecfParts.{part-nil}
use Rattle.sl_fields.proofs.FecfRecurrence.{part-recurs}
use Rattle.sl_fields.proofs.FecfSlices.{zero_slice, slices, length-sum, length-across, part-cut, part-first, part-two, part-four}
use Rattle.sl_fields.proofs.Xor.{xor_sums, xor_none, xor_moved}

-- two of four

-- in these sums the letters are any numbers
xor_early : (h d t e l : ℕ) → bit_xor (bit_xor (bit_xor h d) (bit_xor (bit_xor t e) l)) h ≡ bit_xor d (bit_xor t (bit_xor e l))
xor_early h d t e l = simp xor_sums

-- An early slice goes. `a` is the slice with its first eight octets added to its last eight. All of `a` is added 22
-- and 32 places later, and its last eight octets also 8 places later.
early_two : (later : ℕ) (x a : List ℕ) → length x ≡ 16 → a ≡ zip2 bit_xor x (drop 8 zero_slice ++ take 8 x)
    → part_of (32 + later) x ≡ bit_xor (part_of (24 + later) (drop 8 a)) (bit_xor (part_of (16 + later) (take 10 a)) (bit_xor (part_of (10 + later) (drop 10 a)) (part_of later a)))
early_two later x a e is =
    let long : length a ≡ 16 = ap length is ∙ simp (length-sum, length-across, e) in
    let whole : part_of (32 + later) a ≡ bit_xor (part_of (32 + later) x) (part_of (32 + later) (take 8 x)) = ap (part_of (32 + later)) is ∙ simp (slices, e) in
    let first : part_of (32 + later) (take 8 a) ≡ part_of (32 + later) (take 8 x) = ap (λ l. part_of (32 + later) (take 8 l)) is ∙ simp (part-first, part-nil, xor_none, e) in
    let n32 : 8 + (24 + later) ≡ 32 + later = omega arith in
    let n16 : 6 + (10 + later) ≡ 16 + later = omega arith in
    let cut_8 = part-cut 8 8 (24 + later) a refl long in
    let cut_10 = part-cut 10 6 (10 + later) a refl long in
    let recurs = part-recurs 1 later a in
    xor_moved (part_of (32 + later) a) (part_of (32 + later) x) (part_of (32 + later) (take 8 x)) whole
    ∙ rw (recurs, cut_8, cut_10, n32, n16, first)
    (xor_early (part_of (32 + later) (take 8 x)) (part_of (24 + later) (drop 8 a)) (part_of (16 + later) (take 10 a)) (part_of (10 + later) (drop 10 a)) (part_of later a))

xor_two : (a b c d f g h i r t : ℕ) → bit_xor (bit_xor (bit_xor (bit_xor r f) (bit_xor c g)) d) (bit_xor (bit_xor t h) i) ≡ bit_xor (bit_xor a (bit_xor b (bit_xor c d))) (bit_xor (bit_xor (bit_xor (bit_xor f (bit_xor g (bit_xor h i))) b) a) (bit_xor r t))
xor_two a b c d f g h i r t = simp xor_sums

-- the later half, where the early half is a and b
late_two : (p q r t a b sum : List ℕ) → length a ≡ 16 → length b ≡ 16 → length p ≡ 16 → length q ≡ 16 → length r ≡ 16 → length t ≡ 16
    → a ≡ zip2 bit_xor p (drop 8 zero_slice ++ take 8 p) → sum ≡ zip2 bit_xor (zip2 bit_xor q (drop 8 a ++ take 8 zero_slice)) (drop 10 zero_slice ++ take 10 a) → b ≡ zip2 bit_xor sum (drop 8 zero_slice ++ take 8 sum)
    → part_of 0 (zip2 bit_xor (zip2 bit_xor (zip2 bit_xor r (drop 8 b ++ take 8 zero_slice)) (drop 10 a ++ take 10 b)) a ++ zip2 bit_xor (zip2 bit_xor t (drop 10 b ++ take 10 zero_slice)) b)
    ≡ part_of 0 (p ++ (q ++ (r ++ t)))
late_two p q r t a b sum long_a long_b long_p long_q long_r long_t is_a is_sum is_b =
    let long_sum : length sum ≡ 16 = ap length is_sum ∙ simp (length-sum, length-across, long_a, long_q) in
    let of_p = early_two 16 p a long_p is_a in
    let of_sum = early_two 0 sum b long_sum is_b in
    let added : part_of 32 sum ≡ bit_xor (bit_xor (part_of 32 q) (part_of 40 (drop 8 a))) (part_of 32 (take 10 a)) = ap (part_of 32) is_sum ∙ simp (slices, long_a, long_q) in
    let less = sym (xor_moved (part_of 32 sum) (bit_xor (part_of 32 q) (part_of 40 (drop 8 a))) (part_of 32 (take 10 a)) added) in
    let of_q = xor_moved (bit_xor (part_of 32 sum) (part_of 32 (take 10 a))) (part_of 32 q) (part_of 40 (drop 8 a)) less in
    let long_rb : length (zip2 bit_xor r (drop 8 b ++ take 8 zero_slice)) ≡ 16 = simp (length-sum, length-across, long_b, long_r) in
    let third : part_of 16 (zip2 bit_xor (zip2 bit_xor (zip2 bit_xor r (drop 8 b ++ take 8 zero_slice)) (drop 10 a ++ take 10 b)) a) ≡ bit_xor (bit_xor (bit_xor (part_of 16 r) (part_of 24 (drop 8 b))) (bit_xor (part_of 26 (drop 10 a)) (part_of 16 (take 10 b)))) (part_of 16 a) =
    simp (slices, long_a, long_b, long_r, long_rb) in
    let fourth : part_of 0 (zip2 bit_xor (zip2 bit_xor t (drop 10 b ++ take 10 zero_slice)) b) ≡ bit_xor (bit_xor (part_of 0 t) (part_of 10 (drop 10 b))) (part_of 0 b) = simp (slices, long_b, long_t) in
    let long_fourth : length (zip2 bit_xor (zip2 bit_xor t (drop 10 b ++ take 10 zero_slice)) b) ≡ 16 = simp (length-sum, length-across, long_b, long_t) in
    part-two 0 (zip2 bit_xor (zip2 bit_xor (zip2 bit_xor r (drop 8 b ++ take 8 zero_slice)) (drop 10 a ++ take 10 b)) a) (zip2 bit_xor (zip2 bit_xor t (drop 10 b ++ take 10 zero_slice)) b) long_fourth
    ∙ rw (third, fourth, part-four 0 p q r t long_q long_r long_t, of_p, of_q, of_sum)
    (xor_two (part_of 40 (drop 8 a)) (part_of 32 (take 10 a)) (part_of 26 (drop 10 a)) (part_of 16 a) (part_of 24 (drop 8 b)) (part_of 16 (take 10 b)) (part_of 10 (drop 10 b)) (part_of 0 b) (part_of 16 r) (part_of 0 t))

pub two_of_four : (p q r t : List ℕ) → length p ≡ 16 → length q ≡ 16 → length r ≡ 16 → length t ≡ 16
    → (let a = zip2 bit_xor p (drop 8 zero_slice ++ take 8 p) in
    let sum = zip2 bit_xor (zip2 bit_xor q (drop 8 a ++ take 8 zero_slice)) (drop 10 zero_slice ++ take 10 a) in
    let b = zip2 bit_xor sum (drop 8 zero_slice ++ take 8 sum) in
    part_of 0 (zip2 bit_xor (zip2 bit_xor (zip2 bit_xor r (drop 8 b ++ take 8 zero_slice)) (drop 10 a ++ take 10 b)) a ++ zip2 bit_xor (zip2 bit_xor t (drop 10 b ++ take 10 zero_slice)) b)
    ≡ part_of 0 (p ++ (q ++ (r ++ t))))
two_of_four p q r t long_p long_q long_r long_t =
    let a = zip2 bit_xor p (drop 8 zero_slice ++ take 8 p) in
    let sum = zip2 bit_xor (zip2 bit_xor q (drop 8 a ++ take 8 zero_slice)) (drop 10 zero_slice ++ take 10 a) in
    let b = zip2 bit_xor sum (drop 8 zero_slice ++ take 8 sum) in
    let long_a : length a ≡ 16 = simp (length-sum, length-across, long_p) in
    let long_sum : length sum ≡ 16 = simp (length-sum, length-across, long_a, long_q) in
    let long_b : length b ≡ 16 = simp (length-sum, length-across, long_sum) in
    late_two p q r t a b sum long_a long_b long_p long_q long_r long_t refl refl refl

-- one of two; a number in a name, as in `t12` and `x12`, is how many octets are taken from the front

xor_one : (p t12 t8 t5 t4 t1 c d l : ℕ) → bit_xor (bit_xor (bit_xor p t12) (bit_xor t8 t4)) t5 ≡ bit_xor (bit_xor (bit_xor (bit_xor (bit_xor t12 t8) t4) t1) c) (bit_xor (bit_xor (bit_xor t5 t1) d) l) → p ≡ bit_xor c (bit_xor d l)
xor_one p t12 t8 t5 t4 t1 c d l e =
    let all = bit_xor (bit_xor (bit_xor (bit_xor (bit_xor t12 t8) t4) t1) c) (bit_xor (bit_xor (bit_xor t5 t1) d) l) in
    let others = bit_xor t12 (bit_xor t8 (bit_xor t4 t5)) in
    let same : all ≡ bit_xor p others = sym e ∙ simp xor_assoc in
    xor_moved all p others same ∙ simp xor_sums

-- An early slice goes: its octets are added to those 4, 11 and 16 places later.
early_one : (x sum a : List ℕ) → length x ≡ 16 → length sum ≡ 16 → sum ≡ zip2 bit_xor x (drop 12 zero_slice ++ take 12 x) → a ≡ zip2 bit_xor (zip2 bit_xor sum (drop 8 zero_slice ++ take 8 sum)) (drop 5 zero_slice ++ take 5 x)
    → part_of 16 x ≡ bit_xor (part_of 12 (drop 12 a)) (bit_xor (part_of 5 (drop 5 a)) (part_of 0 a))
early_one x sum a e f is_sum is_a =
    let eight = zip2 bit_xor sum (drop 8 zero_slice ++ take 8 sum) in
    let long_eight : length eight ≡ 16 = simp (length-sum, length-across, f) in
    let long : length a ≡ 16 = ap length is_a ∙ simp (length-sum, length-across, e, long_eight) in
    let x12 = part_of 16 (take 12 x) in
    let x8 = part_of 16 (take 8 x) in
    let x5 = part_of 16 (take 5 x) in
    let x4 = part_of 16 (take 4 x) in
    let x1 = part_of 16 (take 1 x) in
    let sum16 : part_of 16 sum ≡ bit_xor (part_of 16 x) x12 = ap (part_of 16) is_sum ∙ simp (slices, e) in
    let sum12 : part_of 16 (take 12 sum) ≡ bit_xor x12 x8 = ap (λ l. part_of 16 (take 12 l)) is_sum ∙ simp (part-first, e) in
    let sum8 : part_of 16 (take 8 sum) ≡ bit_xor x8 x4 = ap (λ l. part_of 16 (take 8 l)) is_sum ∙ simp (part-first, e) in
    let sum5 : part_of 16 (take 5 sum) ≡ bit_xor x5 x1 = ap (λ l. part_of 16 (take 5 l)) is_sum ∙ simp (part-first, e) in
    let sum4 : part_of 16 (take 4 sum) ≡ x4 = ap (λ l. part_of 16 (take 4 l)) is_sum ∙ simp (part-first, part-nil, xor_none, e) in
    let a16 : part_of 16 a ≡ bit_xor (bit_xor (bit_xor (part_of 16 x) x12) (bit_xor x8 x4)) x5 = ap (part_of 16) is_a ∙ simp (slices, e, f, long_eight, sum16, sum8) in
    let a12 : part_of 16 (take 12 a) ≡ bit_xor (bit_xor (bit_xor x12 x8) x4) x1 = ap (λ l. part_of 16 (take 12 l)) is_a ∙ simp (part-first, e, f, long_eight, sum12, sum4) in
    let a5 : part_of 16 (take 5 a) ≡ bit_xor x5 x1 = ap (λ l. part_of 16 (take 5 l)) is_a ∙ simp (part-first, part-nil, xor_none, e, f, long_eight, sum5) in
    let cut_12 : part_of 12 a ≡ bit_xor (part_of 16 (take 12 a)) (part_of 12 (drop 12 a)) = part-cut 12 4 12 a refl long in
    let cut_5 : part_of 5 a ≡ bit_xor (part_of 16 (take 5 a)) (part_of 5 (drop 5 a)) = part-cut 5 11 5 a refl long in
    let recurs : part_of 16 a ≡ bit_xor (part_of 12 a) (bit_xor (part_of 5 a) (part_of 0 a)) = part-recurs 0 0 a in
    xor_one (part_of 16 x) x12 x8 x5 x4 x1 (part_of 12 (drop 12 a)) (part_of 5 (drop 5 a)) (part_of 0 a) (sym a16 ∙ recurs ∙ rw (cut_12, cut_5, a12, a5) refl)

xor_last : (q a b c : ℕ) → bit_xor (bit_xor (bit_xor q a) b) c ≡ bit_xor (bit_xor c (bit_xor b a)) q
xor_last q a b c = simp xor_sums

late_one : (p q a : List ℕ) → length q ≡ 16 → length a ≡ 16 → part_of 16 p ≡ bit_xor (part_of 12 (drop 12 a)) (bit_xor (part_of 5 (drop 5 a)) (part_of 0 a))
    → part_of 0 (zip2 bit_xor (zip2 bit_xor (zip2 bit_xor q a) (drop 5 a ++ take 5 zero_slice)) (drop 12 a ++ take 12 zero_slice)) ≡ part_of 0 (p ++ q)
late_one p q a long_q long_a early =
    let long_qa : length (zip2 bit_xor q a) ≡ 16 = simp (length-sum, long_q, long_a) in
    let late : part_of 0 (zip2 bit_xor (zip2 bit_xor (zip2 bit_xor q a) (drop 5 a ++ take 5 zero_slice)) (drop 12 a ++ take 12 zero_slice)) ≡ bit_xor (bit_xor (bit_xor (part_of 0 q) (part_of 0 a)) (part_of 5 (drop 5 a))) (part_of 12 (drop 12 a)) =
    simp (slices, long_q, long_a, long_qa) in
    late
    ∙ xor_last (part_of 0 q) (part_of 0 a) (part_of 5 (drop 5 a)) (part_of 12 (drop 12 a))
    ∙ ap (λ n. bit_xor n (part_of 0 q)) (sym early) ∙ sym (part-two 0 p q long_q)

pub one_of_two : (p q : List ℕ) → length p ≡ 16 → length q ≡ 16
    → (let sum = zip2 bit_xor p (drop 12 zero_slice ++ take 12 p) in
    let a = zip2 bit_xor (zip2 bit_xor sum (drop 8 zero_slice ++ take 8 sum)) (drop 5 zero_slice ++ take 5 p) in
    part_of 0 (zip2 bit_xor (zip2 bit_xor (zip2 bit_xor q a) (drop 5 a ++ take 5 zero_slice)) (drop 12 a ++ take 12 zero_slice)) ≡ part_of 0 (p ++ q))
one_of_two p q long_p long_q =
    let sum = zip2 bit_xor p (drop 12 zero_slice ++ take 12 p) in
    let a = zip2 bit_xor (zip2 bit_xor sum (drop 8 zero_slice ++ take 8 sum)) (drop 5 zero_slice ++ take 5 p) in
    let long_sum : length sum ≡ 16 = simp (length-sum, length-across, long_p) in
    let long_a : length a ≡ 16 = simp (length-sum, length-across, long_p, long_sum) in
    late_one p q a long_q long_a (early_one p sum a long_p long_sum refl refl)
