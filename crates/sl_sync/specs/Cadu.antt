-- Units of one length: a marker, `lead` octets, a frame and `trail` octets. With the attached sync marker of
-- CCSDS 131.0-B and no lead these are channel access data units (CADUs), whose trail is the parity of a code.
use Rattle.std.specs.Prelude.{ℕ, ◌+◌, ◌*◌, Bool, true, false, ◌&&◌, ◌||◌, List, [], ◌∷◌, length, take, drop}
use Rattle.std.specs.Prelude.{nat_le, if◌then◌else◌}
use Rattle.sl_sync.specs.Marker.{is_marked}
use Rattle.sl_sync.specs.Randomiser.{randomised_if}
use Rattle.sl_sync.specs.Units.{Content, Rule}
use Rattle.sl_sync.specs.declared.cadu.CaduShape.{CaduShape}
use Rattle.sl_sync.specs.declared.randomiser.Randomiser.TheVariants.{Tm}
use Rattle.sl_sync.specs.declared.units.Place.{Place}
use Rattle.sl_sync.specs.declared.units.Place.TheVariants.{Start, Next, Astray}

-- the octets of a unit before its frame
abbrev pub before : CaduShape → ℕ
before s = length s.marker.octets + s.lead

-- the octets of a unit up to the end of its frame
abbrev pub needed : CaduShape → ℕ
needed s = before s + s.len

-- the octets of a unit, from its beginning to that of the next one
abbrev pub stride : CaduShape → ℕ
stride s = needed s + s.trail

-- a marker is here, or as much of it as the file still has
abbrev pub has_marker : CaduShape → List ℕ → Bool
has_marker s octets = is_marked s.marker octets

-- a unit ended here
abbrev pub is_next : Place → Bool
is_next Start = false
is_next Next = true
is_next Astray = false

-- A unit begins here: its frame is whole, and it stands between two markers. One is before it: its own, or another unit
-- ended right here. One is behind it: where the next unit would begin, or the one after that; past the end of the file
-- any place counts.
unfoldable pub cadu_begins : CaduShape → Place → List ℕ → Bool
cadu_begins s place octets =
    nat_le (needed s) (length octets) && ((is_next place || has_marker s octets)
    && (has_marker s (drop (stride s) octets) || has_marker s (drop (2 * stride s) octets)))

-- the frame of the unit that begins here, without the randomiser's sequence
abbrev pub frame_of : CaduShape → List ℕ → List ℕ
frame_of s octets = randomised_if s.randomised Tm (take s.len (drop (before s) octets))

-- the unit that begins here holds that frame
abbrev pub cadu_content : CaduShape → List ℕ → Content
cadu_content s octets =
    record { frames = frame_of s octets ∷ []; marked = has_marker s octets; cut = 0; refused = false }

-- Behind a stray octet. Where a unit ended here and the file has too few octets for another frame, these are of a unit
-- that the end of the file cuts, and nothing went astray.
abbrev pub cadu_behind : CaduShape → Place → List ℕ → Place
cadu_behind s Start octets = Start
cadu_behind s Next octets = if nat_le (needed s) (length octets) then Astray else Next
cadu_behind s Astray octets = Astray

-- units of one length
abbrev pub cadu_rule : CaduShape → Rule
cadu_rule s = record {
  begins = cadu_begins s;
  size = λ octets. stride s;
  content = cadu_content s;
  behind = cadu_behind s;
  ahead = 2 * stride s + length s.marker.octets;
}
