-- Sums without carries of registers and of messages. The register's steps keep sums, so the part that an octet adds
-- can be computed beforehand.
use Rattle.std.proofs.Common.{◌≡◌, ℕ, zero, suc, ◌≤◌, Bool, true, false, List, [], ◌∷◌, ◌++◌, length, replicate, refl, sym, ◌∙◌, ap, arith, append-nil, append_assoc}
use Rattle.std.proofs.lemmas.List.{length-append}
use Rattle.sl_fields.specs.Fecf.{plus_bit, plus_bits}
use Rattle.sl_fields.proofs.Division.{low_generator, reduced, stepped, ran, zeros, length-plus_bits, plus_bit-assoc, plus_bits-zeros, plus_bits-assoc, length-stepped}

-- sums

pub plus_bits-false : (k : ℕ) (bits : List Bool) → plus_bits (replicate k false) bits ≡ bits
plus_bits-false zero bits = refl
plus_bits-false (suc k) [] = refl
plus_bits-false (suc k) (b ∷ bits) = ap (λ rest. b ∷ rest) (plus_bits-false k bits)

plus_bit_comm : (a b : Bool) → plus_bit a b ≡ plus_bit b a
plus_bit_comm false false = refl
plus_bit_comm false true = refl
plus_bit_comm true false = refl
plus_bit_comm true true = refl

plus_bit-self : (a : Bool) → plus_bit a a ≡ false
plus_bit-self false = refl
plus_bit-self true = refl

plus_bit-twice : (a b : Bool) → plus_bit a (plus_bit a b) ≡ b
plus_bit-twice false b = refl
plus_bit-twice true false = refl
plus_bit-twice true true = refl

plus_bit-swap : (a b c : Bool) → plus_bit a (plus_bit b c) ≡ plus_bit b (plus_bit a c)
plus_bit-swap a b c = plus_bit-assoc a b c ∙ ap (λ d. plus_bit d c) (plus_bit_comm a b) ∙ sym (plus_bit-assoc b a c)

-- the sum of two sums, with the four bits in another order
plus_bit-four : (s t a b : Bool) → plus_bit (plus_bit s t) (plus_bit a b) ≡ plus_bit (plus_bit s a) (plus_bit t b)
plus_bit-four s t a b =
    sym (plus_bit-assoc s t (plus_bit a b)) ∙ ap (plus_bit s) (plus_bit-swap t a b) ∙ plus_bit-assoc s a (plus_bit t b)

-- a word that is added twice cancels out
pub plus_bits-twice : (word bits : List Bool) → plus_bits word (plus_bits word bits) ≡ bits
plus_bits-twice [] bits = refl
plus_bits-twice (w ∷ word) [] = refl
plus_bits-twice (w ∷ word) (b ∷ bits) = rw (plus_bit-twice w b, plus_bits-twice word bits) refl

plus_bits_comm : (vs ws : List Bool) → length vs ≡ length ws → plus_bits vs ws ≡ plus_bits ws vs
plus_bits_comm [] [] e = refl
plus_bits_comm [] (w ∷ ws) e = absurd (omega arith)
plus_bits_comm (v ∷ vs) [] e = absurd (omega arith)
plus_bits_comm (v ∷ vs) (w ∷ ws) e =
    let same : length vs ≡ length ws = omega arith in
    rw (plus_bit_comm v w, plus_bits_comm vs ws same) refl

plus_bits-swap : (vs ws bits : List Bool) → length vs ≡ length ws → plus_bits vs (plus_bits ws bits) ≡ plus_bits ws (plus_bits vs bits)
plus_bits-swap vs ws bits e =
    plus_bits-assoc vs ws bits (omega arith) ∙ ap (λ both. plus_bits both bits) (plus_bits_comm vs ws e) ∙ sym (plus_bits-assoc ws vs bits (omega arith))

pub plus_bits-append : (vs ws xs ys : List Bool) → length vs ≡ length ws → plus_bits (vs ++ xs) (ws ++ ys) ≡ plus_bits vs ws ++ plus_bits xs ys
plus_bits-append [] [] xs ys e = refl
plus_bits-append [] (w ∷ ws) xs ys e = absurd (omega arith)
plus_bits-append (v ∷ vs) [] xs ys e = absurd (omega arith)
plus_bits-append (v ∷ vs) (w ∷ ws) xs ys e =
    let same : length vs ≡ length ws = omega arith in
    ap (λ rest. plus_bit v w ∷ rest) (plus_bits-append vs ws xs ys same)

-- the register's steps keep sums

reduced-plus : (p q : Bool) (vs ws : List Bool) → length vs ≡ 15 → length ws ≡ 15 → reduced (plus_bit p q) (plus_bits vs ws) ≡ plus_bits (reduced p vs) (reduced q ws)
reduced-plus p q vs ws e f =
    let same : length vs ≡ length ws = omega arith in
    let v = vs ++ false ∷ [] in
    let w = ws ++ false ∷ [] in
    let longer : length low_generator ≡ length v = omega (arith, length-append vs (false ∷ [])) in
    let within : length low_generator ≤ length v = omega arith in
    let moved : plus_bits vs ws ++ false ∷ [] ≡ plus_bits v w = sym (plus_bits-append vs ws (false ∷ []) (false ∷ []) same) in
    elim p as (λ r. reduced (plus_bit r q) (plus_bits vs ws) ≡ plus_bits (reduced r vs) (reduced q ws)) [
      | false ↦ elim q as (λ r. reduced r (plus_bits vs ws) ≡ plus_bits v (reduced r ws)) [
        | false ↦ moved
        | true ↦ ap (plus_bits low_generator) moved ∙ plus_bits-swap low_generator v w longer
      ]
      | true ↦ elim q as (λ r. reduced (plus_bit true r) (plus_bits vs ws) ≡ plus_bits (plus_bits low_generator v) (reduced r ws)) [
        | false ↦ ap (plus_bits low_generator) moved ∙ plus_bits-assoc low_generator v w within
        | true ↦
            moved ∙ sym (plus_bits-twice low_generator (plus_bits v w))
            ∙ ap (plus_bits low_generator) (plus_bits-swap low_generator v w longer)
            ∙ plus_bits-assoc low_generator v (plus_bits low_generator w) within
      ]
    ]

stepped-plus : (vs ws : List Bool) (a b : Bool) → length vs ≡ 16 → length ws ≡ 16 → stepped (plus_bits vs ws) (plus_bit a b) ≡ plus_bits (stepped vs a) (stepped ws b)
stepped-plus [] ws a b e f = absurd (omega arith)
stepped-plus (v ∷ vs) [] a b e f = absurd (omega arith)
stepped-plus (v ∷ vs) (w ∷ ws) a b e f =
    let left : length vs ≡ 15 = omega arith in
    let right : length ws ≡ 15 = omega arith in
    ap (λ q. reduced q (plus_bits vs ws)) (plus_bit-four v w a b) ∙ reduced-plus (plus_bit v a) (plus_bit w b) vs ws left right

pub ran-plus : (vs ws xs ys : List Bool) → length vs ≡ 16 → length ws ≡ 16 → length xs ≡ length ys → ran (plus_bits vs ws) (plus_bits xs ys) ≡ plus_bits (ran vs xs) (ran ws ys)
ran-plus vs ws [] [] e f g = refl
ran-plus vs ws [] (y ∷ ys) e f g = absurd (omega arith)
ran-plus vs ws (x ∷ xs) [] e f g = absurd (omega arith)
ran-plus vs ws (x ∷ xs) (y ∷ ys) e f g =
    let same : length xs ≡ length ys = omega arith in
    ap (λ word. ran word (plus_bits xs ys)) (stepped-plus vs ws x y e f)
    ∙ ran-plus (stepped vs x) (stepped ws y) xs ys (length-stepped vs x e) (length-stepped ws y f) same

-- bits of a message that equal the register's first bits move the register up and add nothing
pub ran-own : (front word : List Bool) → ran (front ++ word) front ≡ word ++ replicate (length front) false
ran-own [] word = sym (append-nil word)
ran-own (s ∷ front) word =
    ap (λ q. ran (reduced q (front ++ word)) front) (plus_bit-self s)
    ∙ ap (λ moved. ran moved front) (append_assoc front word (false ∷ []))
    ∙ ran-own front (word ++ false ∷ [])
    ∙ append_assoc word (false ∷ []) (replicate (length front) false)

-- The register after bits of a message, no more bits than the register has: the register is moved up, and its first
-- bits plus the message's bits, divided from a register of zeros, are added.
pub ran-front : (front word bits : List Bool) → length (front ++ word) ≡ 16 → length front ≡ length bits → ran (front ++ word) bits ≡ plus_bits (word ++ replicate (length front) false) (ran zeros (plus_bits front bits))
ran-front front word bits e f =
    let whole : plus_bits (front ++ word) zeros ≡ front ++ word = ap (λ n. plus_bits (front ++ word) (replicate n false)) (sym e) ∙ plus_bits-zeros (front ++ word) in
    let same : length front ≡ length (plus_bits front bits) = f ∙ sym (length-plus_bits front bits) in
    ap (λ r. ran r bits) (sym whole)
    ∙ ap (ran (plus_bits (front ++ word) zeros)) (sym (plus_bits-twice front bits))
    ∙ ran-plus (front ++ word) zeros front (plus_bits front bits) e refl same
    ∙ ap (λ r. plus_bits r (ran zeros (plus_bits front bits))) (ran-own front word)
