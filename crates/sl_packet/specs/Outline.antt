-- Octets of which only their number and the first six are kept.
use Rattle.std.specs.Prelude.{◌≡◌, List, ℕ, length, take}
use Rattle.sl_packet.specs.declared.outline.Outline.{Outline}

-- The octets are as many as the outline says, and the first six of them, or all where there are
-- fewer, are those of its header. Where there are fewer, nothing is said of the rest of the header.
pub record HasOutline (octets : List ℕ) (outline : Outline) : Type 0 where
  pub count : outline.octets ≡ length octets
  pub first : take (length octets) outline.header ≡ take 6 octets
