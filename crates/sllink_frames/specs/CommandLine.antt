-- What the values of options stand for.
use Rattle.std.specs.Prelude.{◌≡◌, ℕ, ◌*◌, ◌&&◌, Bool, List, Option, Some, None, Result, Ok, Err, length, nat_le}
use Rattle.std.specs.Prelude.{if◌then◌else◌}
use Rattle.hex.specs.Hex.{decode_of}
use Rattle.hex.specs.declared.error.FromHexError.{FromHexError}
use Rattle.sl_sync.specs.Marker.{Marker, no_marker}
use Rattle.sllink_frames.specs.declared.command_line.Refused.{Refused}
use Rattle.sllink_frames.specs.declared.command_line.Refused.TheVariants as refused
use Rattle.sllink_frames.specs.declared.command_line.Shape.{Shape}
use Rattle.sllink_frames.specs.declared.command_line.Shape.TheVariants.{Cadu, Cltu}

-- the shape of CLTUs, of whose start sequence this number of bits may be wrong
abbrev pub IsCltuShape : ℕ → Bool → Shape → Type 0
IsCltuShape errors randomised (Cadu s) = ⊥
IsCltuShape errors randomised (Cltu s) = (s.errors ≡ errors) × (s.randomised ≡ randomised)

-- the marker of one to sixteen octets, of whose bits a quarter may be wrong at most
unfoldable pub marker_with : List ℕ → ℕ → Result Marker Refused
marker_with octets errors =
    if nat_le 1 (length octets) && nat_le (length octets) 16
    then (if nat_le errors (2 * length octets) then Ok (record { octets = octets; errors = errors }) else Err refused.Errors)
    else Err refused.Marker

-- the same of octets that were read, or not
abbrev pub marker_read : Result (List ℕ) FromHexError → ℕ → Result Marker Refused
marker_read (Ok octets) errors = marker_with octets errors
marker_read (Err e) errors = Err refused.Marker

-- the marker of a text, two hexadecimal digits an octet
unfoldable pub marker_in : List ℕ → ℕ → Result Marker Refused
marker_in text errors = marker_read (decode_of text) errors

-- the marker that a text has, if there is one; without a marker no bits can be wrong
abbrev pub marker_of : Option (List ℕ) → ℕ → Result Marker Refused
marker_of None errors = if nat_le errors 0 then Ok no_marker else Err refused.Errors
marker_of (Some text) errors = marker_in text errors
