-- The frame error control field as octets, CCSDS 132.0-B and 232.0-B. `has` says whether frames
-- have one: this is managed for each physical channel.
use Rattle.std.specs.Prelude.{ℕ, Bool, if◌then◌else◌, List, [], ◌∷◌, ◌++◌}
use Rattle.sl_fields.specs.Fecf.{fecf_of}
use Rattle.sl_fields.specs.Field.{octets_of}

-- What the function `fecf_field` returns: the two octets of the field that follows these octets,
-- the most significant first.
abbrev pub fecf_octets : List ℕ → List ℕ
fecf_octets octets = octets_of 2 ((16, fecf_of octets) ∷ [])

-- the two octets of the field that follows these octets, or no octets where frames have no field
abbrev pub fecf_part : Bool → List ℕ → List ℕ
fecf_part has octets = if has then fecf_octets octets else []

-- how many octets of a frame the field takes
abbrev pub fecf_len : Bool → ℕ
fecf_len has = if has then 2 else 0

-- these octets, and after them their field where frames have one
abbrev pub with_fecf : Bool → List ℕ → List ℕ
with_fecf has octets = octets ++ fecf_part has octets
