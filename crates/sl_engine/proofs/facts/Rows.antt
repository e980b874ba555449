-- What tables of worked rows are written with.
use Rattle.std.proofs.Common.{◌≡◌, ℕ, ◌+◌, ◌-◌, ◌*◌, ◌==◌, nat_lt, false, not, List, [], ◌∷◌, map, filter, replicate, codes, if◌then◌else◌}
use Prim.Native.String.{String}
use Rattle.sl_engine.specs.Link.Managed.{Parameters}
use Rattle.sl_engine.specs.Link.Totals.{Counts}

-- a row is parameters, a recording, and what this function says of them
abbrev pub Have : {A : Type 0} → (Parameters → List ℕ → A) → List (Parameters × List ℕ × A) → Type 0
Have says rows = map (λ r. says r.0 r.1) rows ≡ map (λ r. r.2) rows

-- the value of a hexadecimal digit, and the octets of pairs of digits
abbrev value : ℕ → ℕ
value digit = if nat_lt digit 58 then digit - 48 else digit - 87

abbrev octets : List ℕ → List ℕ
octets [] = []
octets (high ∷ []) = []
octets (high ∷ low ∷ rest) = (value high * 16 + value low) ∷ octets rest

-- octets in hexadecimal, with a space wherever one helps
abbrev pub hex : String → List ℕ
hex text = octets (filter (λ c. not (c == 32)) (codes text))

-- spacecraft 1, frames of 32 octets, or of TC frames 16 at most
abbrev pub tm : Parameters
tm = record {
  spacecraft = 1;
  tm_length = 32;
  tm_fecf = false;
  tc_max = 1024;
  tc_fecf = false;
  window = 10;
  starts = replicate 64 0;
  plain = [];
  max_octets = 1073741824;
}

abbrev pub tc : Parameters
tc = record tm { tc_max = 16 }

abbrev pub none : Counts
none = record { octets = 0; frames = 0; skipped = 0; rest = 0; packets = 0; idle = 0; anomalies = 0 }
