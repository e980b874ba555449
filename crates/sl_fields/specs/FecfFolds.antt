-- Octets of a message that are added to later ones, with zeros in their own place. Only contracts
-- of private functions cite `first_two_of` and `head_of`, and only they and `word_of` cite
-- `part_of`.
use Rattle.std.specs.Prelude.{◌≡◌, ℕ, ◌+◌, ◌-◌, ◌*◌, ◌%◌, ◌^◌, ◌≤◌, false, List, [], ◌∷◌, ◌++◌}
use Rattle.std.specs.Prelude.{length, take, replicate, bit_xor}
use Rattle.sl_fields.specs.Fecf.{bits_of, bits_number, remainder, fecf_of}

-- The part of octets in the remainder of a message, where `later` more octets come after them: the
-- remainder, without preset, of their bits, eight zeros for each later octet, and sixteen zeros.
unfoldable pub part_of : ℕ → List ℕ → ℕ
part_of later octets = bits_number (remainder (bits_of octets ++ replicate (8 * later + 16) false))

-- The whole slices of sixteen octets end with the message. The `count` octets before them, at most
-- 15, are put at the end of two slices of their own, behind zeros and 84 CF, which turn a register
-- of zeros into the preset.
abbrev pub first_two_of : List ℕ → List ℕ
first_two_of octets =
    let count = length octets % 16 in
    replicate (30 - count) 0 ++ 0x84 ∷ 0xCF ∷ take count octets

-- The sum without carries of two lists of octets, from the front on. It is as long as the second.
abbrev pub plus_octets : List ℕ → List ℕ → List ℕ
plus_octets [] octets = octets
plus_octets (a ∷ added) [] = []
plus_octets (a ∷ added) (o ∷ octets) = bit_xor a o ∷ plus_octets added octets

-- The first `count` octets, two or more, at the end of a slice of sixteen, behind zeros. The first
-- two are inverted, as the preset inverts them.
abbrev pub head_of : ℕ → List ℕ → List ℕ
head_of count octets =
    replicate (16 - count) 0 ++ plus_octets (0xFF ∷ 0xFF ∷ []) (take count octets)

-- the octets, with a run of octets added to those from this place on
abbrev pub with_run_at : ℕ → List ℕ → List ℕ → List ℕ
with_run_at place run octets = plus_octets (replicate place 0 ++ run) octets

-- Zeros may stand in the place of a run of octets if the run is added to those 4, 11 and 16 places
-- later, or `n` times as many, a power of two, and all three lie within the message. The field is
-- the same, whatever stands before the run and behind it.
abbrev pub RunsMayMove : Type 0
RunsMayMove =
    (n power : ℕ) (before run rest : List ℕ)
    → n ≡ 2 ^ power
    → 16 * n ≤ length rest
    → fecf_of (before ++ run ++ rest)
    ≡ fecf_of (before
    ++ with_run_at (4 * n) run (with_run_at (11 * n) run
    (with_run_at (16 * n) run (replicate (length run) 0 ++ rest))))
