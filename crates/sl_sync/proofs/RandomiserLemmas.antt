-- The sequences of the randomisers, and their tables.
use Rattle.std.proofs.Common.{◌≡◌, ℕ, zero, suc, ◌+◌, ◌*◌, ◌/◌, ◌%◌, ◌<◌, List, [], ◌∷◌, ◌++◌, length, get_or}
use Rattle.std.proofs.Common.{take, drop, set, refl, sym, ◌∙◌, ap, arith, append_assoc, length-take-le, drop-cons}
use Rattle.std.proofs.Math.Seq.{set-append_seam, get_or-append_seam, take-suc}
use Rattle.std.specs.Prelude.{bit_xor}
use Rattle.sl_sync.specs.declared.randomiser.Randomiser.{Randomiser}
use Rattle.sl_sync.specs.declared.randomiser.Randomiser.TheVariants.{Tm, Tc}
use Rattle.sl_sync.specs.declared.randomiser.TheConstants.{TM_SEQUENCE, TC_SEQUENCE}
use Rattle.sl_sync.specs.Randomiser.{shifted, later, added, randomised}

-- ---- the register

later-add : (r : Randomiser) (a b register : ℕ) → later r (a + b) register ≡ later r b (later r a register)
later-add r zero b register = let e : 0 + b ≡ b = omega arith in ap (λ (n : ℕ). later r n register) e
later-add r (suc a) b register =
    let e : suc a + b ≡ suc (a + b) = omega arith in
    ap (λ (n : ℕ). later r n register) e ∙ later-add r a b (shifted r register)

turn_more : (q : ℕ) → 2040 * suc q ≡ 2040 + 2040 * q
turn_more q = omega arith

turn_place : (i : ℕ) → 8 * i ≡ 2040 * (i / 255) + 8 * (i % 255)
turn_place i = omega arith

-- the next place in a table, which begins again behind its end
pub next_place : (i : ℕ) → i % 255 ≡ 254 → (i + 1) % 255 ≡ 0
next_place i h = omega (arith, h)

pub later_place : (i : ℕ) → (i % 255 ≡ 254 → ⊥) → (i + 1) % 255 ≡ i % 255 + 1
later_place i h = omega (arith, h)

-- where the register is all ones again after 255 octets, it is so after any number of these
periods : (r : Randomiser) → later r 2040 255 ≡ 255 → (q : ℕ) → later r (2040 * q) 255 ≡ 255
periods r h zero = refl
periods r h (suc q) =
    ap (λ (k : ℕ). later r k 255) (turn_more q) ∙ later-add r 2040 (2040 * q) 255 ∙ ap (λ (s : ℕ). later r (2040 * q) s) h ∙ periods r h q

-- ---- the tables

-- this number of octets of the sequence
octets_of : Randomiser → ℕ → ℕ → List ℕ
octets_of r zero register = []
octets_of r (suc n) register = register ∷ octets_of r n (later r 8 register)

octets_of-at : (r : Randomiser) (n register j : ℕ) → j < n → get_or (octets_of r n register) j 0 ≡ later r (8 * j) register
unfolding octets_of
octets_of-at r zero register j h = absurd (omega arith)
octets_of-at r (suc n) register zero h = refl
octets_of-at r (suc n) register (suc j) h =
    let e : 8 * suc j ≡ 8 + 8 * j = omega arith in
    octets_of-at r n (later r 8 register) j (omega arith) ∙ sym (ap (λ (k : ℕ). later r k register) e ∙ later-add r 8 (8 * j) register)

tm_table : octets_of Tm 255 255 ≡ TM_SEQUENCE
unfolding octets_of
tm_table = refl

tc_table : octets_of Tc 255 255 ≡ TC_SEQUENCE
unfolding octets_of
tc_table = refl

-- the octets of the tables
pub tm_sequence : (i : ℕ) → i < 255 → get_or TM_SEQUENCE i 0 ≡ later Tm (8 * i) 255
tm_sequence i h = ap (λ (t : List ℕ). get_or t i 0) (sym tm_table) ∙ octets_of-at Tm 255 255 i h

pub tc_sequence : (i : ℕ) → i < 255 → get_or TC_SEQUENCE i 0 ≡ later Tc (8 * i) 255
tc_sequence i h = ap (λ (t : List ℕ). get_or t i 0) (sym tc_table) ∙ octets_of-at Tc 255 255 i h

-- after 255 octets the register is all ones again
period : (r : Randomiser) → later r 2040 255 ≡ 255
period Tm = refl
period Tc = refl

-- so each octet of the sequence is one of the first 255
pub turned : (r : Randomiser) (i : ℕ) → later r (8 * (i % 255)) 255 ≡ later r (8 * i) 255
turned r i =
    sym (ap (λ (k : ℕ). later r k 255) (turn_place i) ∙ later-add r (2040 * (i / 255)) (8 * (i % 255)) 255
    ∙ ap (λ (s : ℕ). later r (8 * (i % 255)) s) (periods r (period r) (i / 255)))

-- ---- the sequence on octets

added-append : (r : Randomiser) (register : ℕ) (xs ys : List ℕ)
    → added r register (xs ++ ys) ≡ added r register xs ++ added r (later r (8 * length xs) register) ys
unfolding added
added-append r register [] ys = refl
added-append r register (x ∷ xs) ys =
    let e : 8 * length (x ∷ xs) ≡ 8 + 8 * length xs = omega arith in
    let on : later r (8 * length xs) (later r 8 register) ≡ later r (8 * length (x ∷ xs)) register =
    sym (ap (λ (k : ℕ). later r k register) e ∙ later-add r 8 (8 * length xs) register) in
    ap (λ (t : List ℕ). bit_xor x register ∷ t)
    (added-append r (later r 8 register) xs ys ∙ ap (λ (s : ℕ). added r (later r 8 register) xs ++ added r s ys) on)

pub length-added : (r : Randomiser) (register : ℕ) (xs : List ℕ) → length (added r register xs) ≡ length xs
unfolding added
length-added r register [] = refl
length-added r register (x ∷ xs) = ap suc (length-added r (later r 8 register) xs)

pub added-none : (r : Randomiser) (register : ℕ) → added r register [] ≡ []
unfolding added
added-none r register = refl

added-one : (r : Randomiser) (register o : ℕ) → added r register (o ∷ []) ≡ bit_xor o register ∷ []
unfolding added
added-one r register o = refl

-- one octet more
pub randomised-more : (r : Randomiser) (xs ys : List ℕ) (i t : ℕ) → t ≡ later r (8 * i) 255 → i < length xs
    → ys ≡ randomised r (take i xs) ++ drop i xs
    → set ys i (bit_xor (get_or ys i 0) t) ≡ randomised r (take (suc i) xs) ++ drop (suc i) xs
randomised-more r xs ys i t has h e =
    let front = randomised r (take i xs) in
    let o = get_or xs i 0 in
    let behind = drop (suc i) xs in
    let long : length (take i xs) ≡ i = length-take-le i xs (omega arith) in
    let n : length front ≡ i = length-added r 255 (take i xs) ∙ long in
    let parts : ys ≡ front ++ o ∷ behind = e ∙ ap (λ (s : List ℕ). front ++ s) (drop-cons xs i 0 h) in
    let here : get_or ys i 0 ≡ o =
    ap (λ (l : List ℕ). get_or l i 0) parts ∙ ap (λ (k : ℕ). get_or (front ++ o ∷ behind) k 0) (sym n)
    ∙ get_or-append_seam front o behind 0 in
    let v = bit_xor o (later r (8 * i) 255) in
    let written : set ys i v ≡ front ++ v ∷ behind =
    ap (λ (l : List ℕ). set l i v) parts ∙ ap (λ (k : ℕ). set (front ++ o ∷ behind) k v) (sym n)
    ∙ set-append_seam front o behind v in
    let more : randomised r (take (suc i) xs) ≡ front ++ v ∷ [] =
    ap (λ (l : List ℕ). randomised r l) (take-suc xs i 0 h) ∙ added-append r 255 (take i xs) (o ∷ [])
    ∙ ap (λ (k : ℕ). front ++ added r (later r (8 * k) 255) (o ∷ [])) long
    ∙ ap (λ (t : List ℕ). front ++ t) (added-one r (later r (8 * i) 255) o) in
    ap (λ (w : ℕ). set ys i w) (ap (λ (a : ℕ). bit_xor a t) here ∙ ap (λ (s : ℕ). bit_xor o s) has)
    ∙ written ∙ sym (append_assoc front (v ∷ []) behind) ∙ ap (λ (t : List ℕ). t ++ behind) (sym more)
