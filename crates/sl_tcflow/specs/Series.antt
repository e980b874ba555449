-- Segments, and series of segments, CCSDS 232.0-B. A series carries one service data unit. Here a
-- list of segments is that of one MAP, unless said otherwise.
use Rattle.std.specs.Prelude.{◌≡◌, ℕ, ◌+◌, ◌==◌, ◌||◌, nat_le, Bool, if◌then◌else◌, List, [], ◌∷◌, ◌++◌, length, take, drop, map, Contains}
use Rattle.std.specs.List.{AllByRecursion, concat, filter}
use Rattle.sl_fields.specs.Field.{octets_of}
use Rattle.sl_fields.specs.SegmentHeader.{SegmentFields, segment_header}

-- the segment header of a segment, which is its first octet
abbrev pub header_at : List ℕ → SegmentFields
header_at segment = segment_header (take 1 segment)

-- the octets of a segment after its header
abbrev pub segment_data : List ℕ → List ℕ
segment_data segment = drop 1 segment

-- The segment that stands for a unit without a segment header: all octets of the unit, after a
-- segment header with sequence flags 3 (no segmentation) and MAP 0. Below, (2, 3) is a field of 2 bits
-- with the value 3, and (6, 0) the MAP. MAP 0 is this project's choice.
abbrev pub whole_segment : List ℕ → List ℕ
whole_segment unit = octets_of 1 ((2, 3) ∷ (6, 0) ∷ []) ++ unit

-- the segment of a unit, on a virtual channel without segment headers (`plain`) or with them
abbrev pub segment_in : Bool → List ℕ → List ℕ
segment_in plain unit = if plain then whole_segment unit else unit

-- the segments of a multiplexer access point (MAP), among those of a virtual channel, in order
abbrev pub segments_on : ℕ → List (List ℕ) → List (List ℕ)
segments_on map_id segments = filter (λ segment. (header_at segment).map == map_id) segments

-- the sequence flags of a segment: first 1, continuing 0, last 2, no segmentation 3
abbrev pub flags_of : List ℕ → ℕ
flags_of segment = (header_at segment).flags

-- whether a segment with these flags continues a series, as a continuing or a last one
abbrev pub flags_continue : ℕ → Bool
flags_continue flags = flags == 0 || flags == 2

-- whether a segment with these flags begins a series, as a first one or one with no segmentation
abbrev pub flags_begin : ℕ → Bool
flags_begin flags = flags == 1 || flags == 3

-- A series is one segment with no segmentation, or a first one, continuing ones or none, and a last
-- one.
pub data IsSeries : List (List ℕ) → Type 0 where
  whole : (segment : List ℕ) → flags_of segment ≡ 3 → IsSeries (segment ∷ [])
  segmented : (first last : List ℕ) (middle : List (List ℕ)) → flags_of first ≡ 1
      → AllByRecursion (λ segment. flags_of segment ≡ 0) middle → flags_of last ≡ 2
      → IsSeries (first ∷ middle ++ last ∷ [])

-- a series in a list of segments: how many segments of the list come before the series, and the
-- segments of the series
pub record SeriesAt : Type 0 where
  pub before : ℕ
  pub segments : List (List ℕ)

-- the series is one of the list: its segments stand in the list one after another, from its index
-- on
pub record IsSeriesOf (list : List (List ℕ)) (s : SeriesAt) : Type 0 where
  pub series : IsSeries s.segments
  pub earlier : List (List ℕ)
  pub later : List (List ℕ)
  pub in_order : list ≡ earlier ++ s.segments ++ later
  pub here : s.before ≡ length earlier

-- the index of the segment that comes after the series
abbrev pub past : SeriesAt → ℕ
past s = s.before + length s.segments

-- each series ends before the next one begins: no segment is in two
pub data AreApart : List SeriesAt → Type 0 where
  none : AreApart []
  one : (s : SeriesAt) → AreApart (s ∷ [])
  more : (s t : SeriesAt) (later : List SeriesAt) → nat_le (past s) t.before ≡ Bool.true → AreApart (t ∷ later)
      → AreApart (s ∷ t ∷ later)

-- ---- the series of a list, each found from its first segment and the segments after it

-- the series that begins with the segments `so_far` and ends among the later ones, as a list of one
-- or none: only continuing segments come before a last one
abbrev pub completed : List (List ℕ) → List (List ℕ) → List (List (List ℕ))
completed so_far [] = []
completed so_far (segment ∷ later) =
    if flags_of segment == 0 then completed (so_far ++ segment ∷ []) later
    else if flags_of segment == 2 then (so_far ++ segment ∷ []) ∷ []
    else []

-- the series that begins with this segment and ends with it or among the later ones, as a list of
-- one or none
abbrev pub series_with : List ℕ → List (List ℕ) → List (List (List ℕ))
series_with segment later =
    if flags_of segment == 3 then (segment ∷ []) ∷ []
    else if flags_of segment == 1 then completed (segment ∷ []) later
    else []

-- all series of a list, in the order of their first segments, where `before` segments come before
-- the list
abbrev pub series_from : ℕ → List (List ℕ) → List SeriesAt
series_from before [] = []
series_from before (segment ∷ later) =
    map (λ segments. record { before = before; segments = segments }) (series_with segment later)
    ++ series_from (before + 1) later

-- all series of a list
abbrev pub series_of : List (List ℕ) → List SeriesAt
series_of list = series_from 0 list

-- ---- the service data unit of a series

-- the service data unit of a series: the octets of its segments after their headers, end to end
abbrev pub reassembled : List (List ℕ) → List ℕ
reassembled segments = concat (map segment_data segments)

-- the segment has no segmentation, is on MAP 0, and has all octets of the unit
pub record HasNoSegmentation (unit segment : List ℕ) : Type 0 where
  pub flags : flags_of segment ≡ 3
  pub map : (header_at segment).map ≡ 0
  pub octets : segment_data segment ≡ unit

-- ---- laws

-- Each listed series is a series of the list.
abbrev pub EachIsSeries : Type 0
EachIsSeries = (list : List (List ℕ)) → AllByRecursion (IsSeriesOf list) (series_of list)

-- Each series of the list is listed.
abbrev pub EachSeriesIsListed : Type 0
EachSeriesIsListed = (list : List (List ℕ)) (s : SeriesAt) → IsSeriesOf list s → Contains (series_of list) s

-- Each series ends before the next one begins.
abbrev pub SeriesAreApart : Type 0
SeriesAreApart = (list : List (List ℕ)) → AreApart (series_of list)

-- The segment of a unit on a virtual channel without segment headers has no segmentation, is on MAP
-- 0, and has all octets of the unit.
abbrev pub PlainUnitIsWhole : Type 0
PlainUnitIsWhole = (unit : List ℕ) → HasNoSegmentation unit (segment_in Bool.true unit)
