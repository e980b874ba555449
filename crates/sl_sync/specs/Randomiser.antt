-- The pseudo-randomiser of CCSDS 131.0-B with a period of 255 bits, and the randomiser of CCSDS 231.0-B. Each is a
-- register of eight bits, all ones at first, whose bits are added to those of the data.
use Rattle.std.specs.Prelude.{ℕ, zero, suc, ◌+◌, ◌*◌, ◌/◌, ◌%◌, Bool, true, false, List, [], ◌∷◌, bit_xor}
use Rattle.sl_sync.specs.declared.randomiser.Randomiser.{Randomiser}
use Rattle.sl_sync.specs.declared.randomiser.Randomiser.TheVariants.{Tm, Tc}

-- The bit that comes into the register next. The register is a number whose highest bit goes out first, so the bit that
-- came in k bits ago is that of 2^(k-1). For telemetry h(x) = x^8 + x^7 + x^5 + x^3 + 1: the sum of the bits that came
-- one, three, five and eight bits ago. For telecommand h(x) = x^8 + x^6 + x^4 + x^3 + x^2 + x + 1: of those that came
-- two, four, five, six, seven and eight bits ago.
abbrev pub next_bit : Randomiser → ℕ → ℕ
next_bit Tm register = (register + register / 4 + register / 16 + register / 128) % 2
next_bit Tc register =
    (register / 2 + register / 8 + register / 16 + register / 32 + register / 64 + register / 128) % 2

-- the register a bit later
abbrev pub shifted : Randomiser → ℕ → ℕ
shifted r register = register * 2 % 256 + next_bit r register

-- the register this number of bits later
abbrev pub later : Randomiser → ℕ → ℕ → ℕ
later r zero register = register
later r (suc bits) register = later r bits (shifted r register)

-- octets, to which the sequence is added that comes out of the register from now on
unfoldable pub added : Randomiser → ℕ → List ℕ → List ℕ
added r register [] = []
added r register (o ∷ octets) = bit_xor o register ∷ added r (later r 8 register) octets

-- octets with the randomiser's sequence added from its first bit on: this puts it on, and takes it off again
abbrev pub randomised : Randomiser → List ℕ → List ℕ
randomised r octets = added r 255 octets

-- the same, where there is a randomiser
abbrev pub randomised_if : Bool → Randomiser → List ℕ → List ℕ
randomised_if false r octets = octets
randomised_if true r octets = randomised r octets
