-- The buffer of lines, to which a text is added in place.
use Rattle.std.proofs.Common.{arith, ℕ, ◌+◌, ◌≤◌, ◌≡◌, List, ◌++◌, length, take, append_assoc}
use Rattle.std.proofs.Math.Seq.{take-append-add}
use Rattle.std.proofs.lemmas.List.{take-append-le, take-take, length-take-le}
use Rattle.std.specs.List.{refill}

-- the first octets of a text that was put after the lines in their buffer
pub added : (size len many : ℕ) (old buffer text after : List ℕ) → len ≤ length buffer → many ≤ length text
    → len + many ≤ size
    → take (len + many) (refill size old (take len buffer ++ (text ++ after))) ≡ take len buffer ++ take many text
added size len many old buffer text after inside few fits = grind (arith, append_assoc, length-take-le, take-append-add, take-append-le, take-take)
