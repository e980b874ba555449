-- TC transfer frames of type AD that are written, CCSDS 232.0-B.
use Rattle.std.specs.Prelude.{◌≡◌, ℕ, ◌+◌, ◌-◌, ◌<◌, ◌≤◌, true, List, [], ◌∷◌, ◌++◌, length, Ok}
use Rattle.sl_fields.specs.FecfField.{fecf_len, with_fecf}
use Rattle.sl_fields.specs.Field.{octets_of}
use Rattle.sl_fields.specs.SegmentHeader.{SegmentFields, segment_octets}
use Rattle.sl_tcframe.specs.TcFrame.{TcFormat, Ad, is_cut, tc_frame}

-- the greatest length of a data field in octets, with a segment header or without
abbrev pub plain_room_of : TcFormat → ℕ
plain_room_of format = format.max - 5 - fecf_len format.fecf

-- how many octets a frame carries at most after a segment header (`TcShape::room`)
abbrev pub segment_room_of : TcFormat → ℕ
segment_room_of format = format.max - 6 - fecf_len format.fecf

-- The fields of the header of a frame that has `len` octets, each as its width in bits and its
-- value: version 0, bypass flag 0, control command flag 0, spare bits 0, the spacecraft, the
-- virtual channel, the frame length (the octets of the frame minus 1), and N(S). This is
-- `tc_fields (ad_header ..)` of `sl_fields`, written out so that whoever checks the headline
-- (docs/reading.md) has two definitions fewer to read.
abbrev pub ad_fields : ℕ → ℕ → ℕ → ℕ → List (ℕ × ℕ)
ad_fields spacecraft vc ns len =
    (2, 0) ∷ (1, 0) ∷ (1, 0) ∷ (2, 0) ∷ (10, spacecraft) ∷ (6, vc) ∷ (10, len - 1) ∷ (8, ns) ∷ []

-- the length of a frame whose data field has this number of octets
abbrev pub ad_len : TcFormat → ℕ → ℕ
ad_len format unit_len = 5 + unit_len + fecf_len format.fecf

-- the frame of type AD for this spacecraft and virtual channel, with this N(S), whose data field is
-- this unit
abbrev pub ad_frame : TcFormat → ℕ → ℕ → ℕ → List ℕ → List ℕ
ad_frame format spacecraft vc ns unit =
    with_fecf format.fecf (octets_of 5 (ad_fields spacecraft vc ns (ad_len format (length unit))) ++ unit)

-- a unit: a segment header and the octets after it
abbrev pub segment_unit : SegmentFields → List ℕ → List ℕ
segment_unit header octets = segment_octets header ++ octets

-- ---- laws

-- these values fit in a frame of type AD: the greatest length of the format is one that
-- `TcShape::new` takes, 16 to 1024; the header's fields can hold the values; and the data field can
-- hold the unit, with its segment header if it has one
pub record FitAdFrame (format : TcFormat) (spacecraft vc ns : ℕ) (unit : List ℕ) : Type 0 where
  pub least : 16 ≤ format.max
  pub most : format.max ≤ 1024
  pub spacecraft_fits : spacecraft ≤ 1023
  pub vc_fits : vc ≤ 63
  pub ns_fits : ns < 256
  pub some : 0 < length unit
  pub inside : length unit ≤ plain_room_of format

-- A frame of type AD whose values fit is one frame by its frame length field.
abbrev pub AdFramesAreWhole : Type 0
AdFramesAreWhole =
    (format : TcFormat) (spacecraft vc ns : ℕ) (unit : List ℕ) → FitAdFrame format spacecraft vc ns unit
    → is_cut format (ad_frame format spacecraft vc ns unit) ≡ true

-- A frame of type AD whose values fit is read back as it was made.
abbrev pub AdFramesAreReadBack : Type 0
AdFramesAreReadBack =
    (format : TcFormat) (spacecraft vc ns : ℕ) (unit : List ℕ) → FitAdFrame format spacecraft vc ns unit
    → tc_frame format spacecraft (ad_frame format spacecraft vc ns unit) ≡ Ok (record { vc = vc; content = Ad ns unit })
