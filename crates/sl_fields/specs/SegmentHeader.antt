-- The segment header of a TC transfer frame's data field, CCSDS 232.0-B: one octet.
use Rattle.std.specs.Prelude.{ℕ, ◌^◌, ◌<◌, Bool, if◌then◌else◌, List, [], ◌∷◌}
use Rattle.sl_fields.specs.Field.{field, octets_of}

-- the fields of the header, in their order
pub record SegmentFields : Type 0 where
  pub flags : ℕ
  pub map : ℕ

-- each field is within the range of its bits
pub record FitsSegmentHeader (h : SegmentFields) : Type 0 where
  pub flags : h.flags < 2 ^ 2
  pub map : h.map < 2 ^ 6

-- The sequence flags of a segment. `first` says whether the segment is the first one of its service
-- data unit, and `last` whether it is the last one.
abbrev pub sequence_flags : Bool → Bool → ℕ
sequence_flags first last = if first then (if last then 3 else 1) else (if last then 2 else 0)

-- the header that is read from one octet
abbrev pub segment_header : List ℕ → SegmentFields
segment_header octets =
    record {
      flags = field 1 0 2 octets;
      map = field 1 2 6 octets;
    }

-- the fields in their order, each as its width and its value
abbrev pub segment_fields : SegmentFields → List (ℕ × ℕ)
segment_fields h = (2, h.flags) ∷ (6, h.map) ∷ []

-- the octet of the header with these fields
abbrev pub segment_octets : SegmentFields → List ℕ
segment_octets h = octets_of 1 (segment_fields h)
