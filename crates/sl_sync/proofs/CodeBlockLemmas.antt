-- Code blocks, one more.
use Rattle.std.proofs.Common.{◌≡◌, ℕ, zero, suc, ◌+◌, ◌-◌, ◌<◌, ◌≤◌, Bool, true, false, List, ◌++◌, length, get_or}
use Rattle.std.proofs.Common.{take, drop, refl, sym, ◌∙◌, ap, arith, append_assoc, ◌&&◌, ◌/◌, ◌*◌, length-drop, length-append}
use Rattle.std.proofs.Math.ListN.{get_or-append}
use Rattle.std.proofs.lemmas.Bool.{leb-true, le-leb}
use Rattle.std.proofs.lemmas.List.{drop-append-le, take-append-le}
use Rattle.std.specs.Prelude.{nat_le, ◌==◌}
use Rattle.sl_sync.specs.CodeBlock.{is_block, blocks, data_of, parity}

first_true : (a b : Bool) → (a && b) ≡ true → a ≡ true
first_true true b h = refl
first_true false b h = cc

counted : ℕ → Bool → ℕ
counted n true = n + 1
counted n false = 0

blocks-by : (most : ℕ) (octets : List ℕ) → blocks (suc most) octets ≡ counted (blocks most (drop 8 octets)) (is_block octets)
unfolding counted blocks
blocks-by most octets = refl

blocks-zero : (octets : List ℕ) → blocks 0 octets ≡ 0
unfolding blocks
blocks-zero octets = refl

-- one block more
pub blocks-one : (most : ℕ) (octets : List ℕ) → 0 < most → is_block octets ≡ true
    → blocks most octets ≡ blocks (most - 1) (drop 8 octets) + 1
unfolding counted
blocks-one zero octets some b = absurd (omega arith)
blocks-one (suc most) octets some b =
    let e : suc most - 1 ≡ most = omega arith in
    blocks-by most octets ∙ ap (λ (x : Bool). counted (blocks most (drop 8 octets)) x) b
    ∙ ap (λ (m : ℕ). blocks m (drop 8 octets) + 1) (sym e)

-- no block more
pub blocks_none : (most : ℕ) (octets : List ℕ) → is_block octets ≡ false → blocks most octets ≡ 0
unfolding counted blocks
blocks_none zero octets b = refl
blocks_none (suc most) octets b = blocks-by most octets ∙ ap (λ (x : Bool). counted (blocks most (drop 8 octets)) x) b

-- no block more after the last one that a CLTU may have
pub blocks_full : (count : ℕ) (octets : List ℕ) → 1024 ≤ count → blocks (1024 - count) octets ≡ 0
unfolding blocks
blocks_full count octets h = let e : 1024 - count ≡ 0 = omega arith in ap (λ (m : ℕ). blocks m octets) e

-- the data of one block more
pub data-more : (old front whole rest : List ℕ) (n : ℕ) → ((k : ℕ) → front ++ data_of k rest ≡ old ++ data_of (n + k) whole)
    → (k : ℕ) → (front ++ take 7 rest) ++ data_of k (drop 8 rest) ≡ old ++ data_of (n + 1 + k) whole
data-more old front whole rest n h k =
    let e : n + suc k ≡ n + 1 + k = omega arith in
    append_assoc front (take 7 rest) (data_of k (drop 8 rest)) ∙ h (suc k) ∙ ap (λ (m : ℕ). old ++ data_of m whole) e

counted-most : (most : ℕ) (b : Bool) (n m : ℕ) → n ≤ most → m ≡ counted n b → m ≤ suc most
unfolding counted
counted-most most true n m h e = omega arith
counted-most most false n m h e = omega arith

-- there are no more blocks than may be
pub blocks_most : (most : ℕ) (octets : List ℕ) → blocks most octets ≤ most
unfolding blocks
blocks_most zero octets = omega arith
blocks_most (suc most) octets =
    counted-most most (is_block octets) (blocks most (drop 8 octets)) (blocks (suc most) octets) (blocks_most most (drop 8 octets)) (blocks-by most octets)

-- ---- what more octets change

block_test : (n o : ℕ) (front : List ℕ) → Bool
block_test n o front = nat_le 8 n && (o / 2 == parity front)

-- whether a block is here is seen in its octets
pub is_block-more : (octets more : List ℕ) → 8 ≤ length octets → is_block (octets ++ more) ≡ is_block octets
unfolding block_test
is_block-more octets more h =
    let long : 8 ≤ length (octets ++ more) = omega (arith, length-append octets more) in
    let whole : nat_le 8 (length (octets ++ more)) ≡ nat_le 8 (length octets) =
    le-leb 8 (length (octets ++ more)) long ∙ sym (le-leb 8 (length octets) h) in
    let front : take 7 (octets ++ more) ≡ take 7 octets = take-append-le 7 octets more (omega arith) in
    let last : get_or (octets ++ more) 7 0 ≡ get_or octets 7 0 = get_or-append octets more 0 7 (omega arith) in
    ap (λ (b : Bool). b && (get_or (octets ++ more) 7 0 / 2 == parity (take 7 (octets ++ more)))) whole
    ∙ ap (λ (o : ℕ). block_test (length octets) o (take 7 (octets ++ more))) last
    ∙ ap (λ (x : List ℕ). block_test (length octets) (get_or octets 7 0) x) front

-- where a block is, its octets are there
pub is_block-long : (octets : List ℕ) → is_block octets ≡ true → 8 ≤ length octets
is_block-long octets h = leb-true 8 (length octets) (first_true _ _ h)

counted-same : {n m : ℕ} {a b : Bool} → n ≡ m → a ≡ b → counted n a ≡ counted m b
counted-same p q = cc

-- how many blocks there are is seen in the octets of as many as there may be
pub blocks-more : (most : ℕ) (octets more : List ℕ) → 8 * most ≤ length octets → blocks most (octets ++ more) ≡ blocks most octets
blocks-more zero octets more h = blocks-zero (octets ++ more) ∙ sym (blocks-zero octets)
blocks-more (suc most) octets more h =
    let rest : blocks most (drop 8 (octets ++ more)) ≡ blocks most (drop 8 octets) =
    ap (λ (x : List ℕ). blocks most x) (drop-append-le 8 octets more (omega arith))
    ∙ blocks-more most (drop 8 octets) more (omega (arith, length-drop 8 octets)) in
    blocks-by most (octets ++ more) ∙ counted-same rest (is_block-more octets more (omega arith)) ∙ sym (blocks-by most octets)

-- the data of blocks is seen in their octets
pub data-same : (count : ℕ) (octets more : List ℕ) → 8 * count ≤ length octets → data_of count (octets ++ more) ≡ data_of count octets
data-same zero octets more h = refl
data-same (suc count) octets more h =
    let front : take 7 (octets ++ more) ≡ take 7 octets = take-append-le 7 octets more (omega arith) in
    let rest : data_of count (drop 8 (octets ++ more)) ≡ data_of count (drop 8 octets) =
    ap (λ (x : List ℕ). data_of count x) (drop-append-le 8 octets more (omega arith))
    ∙ data-same count (drop 8 octets) more (omega (arith, length-drop 8 octets)) in
    ap (λ (x : List ℕ). x ++ data_of count (drop 8 (octets ++ more))) front ∙ ap (λ (x : List ℕ). take 7 octets ++ x) rest
