-- Sums of numbers without carries, in other orders.
use Rattle.std.proofs.Common.{◌≡◌, ℕ, sym, ◌∙◌, ap, bit_xor}
use Rattle.std.proofs.lemmas.Nat.{xor_comm}
use Rattle.std.specs.Int.Bits.{xor_assoc, xor_self}

pub xor_left : (a b c : ℕ) → bit_xor a (bit_xor b c) ≡ bit_xor b (bit_xor a c)
xor_left a b c = sym (xor_assoc a b c) ∙ ap (λ n. bit_xor n c) (xor_comm a b) ∙ xor_assoc b a c

pub xor_none : (a : ℕ) → bit_xor a 0 ≡ a
xor_none a = xor_comm a 0

-- a number that is added twice cancels out
pub xor_twice : (a b : ℕ) → bit_xor a (bit_xor a b) ≡ b
xor_twice a b = sym (xor_assoc a a b) ∙ ap (λ n. bit_xor n b) (xor_self a)

pub ruleset xor_sums = (xor_assoc, xor_left, xor_comm, xor_twice, xor_self, xor_none)

pub xor_moved : (a b c : ℕ) → a ≡ bit_xor b c → b ≡ bit_xor a c
xor_moved a b c e = sym (xor_none b) ∙ ap (bit_xor b) (sym (xor_self c)) ∙ sym (xor_assoc b c c) ∙ ap (λ n. bit_xor n c) (sym e)

pub xor_threes : (a b c d e f : ℕ) → bit_xor (bit_xor a (bit_xor b c)) (bit_xor d (bit_xor e f)) ≡ bit_xor (bit_xor a d) (bit_xor (bit_xor b e) (bit_xor c f))
xor_threes a b c d e f = simp (xor_assoc, xor_left)
