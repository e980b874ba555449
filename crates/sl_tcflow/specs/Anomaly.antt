-- Anomalies of the segments that FARM-1 accepts, CCSDS 232.0-B: a segment is out of sequence, an
-- incomplete series is dropped or given up, or octets are left after the last whole packet of a
-- service data unit. Two things are this project's choices: the greatest
-- length of a service data unit, and that the octets after its last whole packet are dropped. Each
-- anomaly has two functions: one with `_of`, which takes the segments of a MAP and the next one; and
-- one with `_by`, which takes the parameters, the frames before and the next one.
use Rattle.std.specs.Prelude.{◌≡◌, ◌⊎◌, ℕ, ◌+◌, ◌<◌, ◌≤◌, ◌==◌, ◌&&◌, nat_le, Bool, true, false, if◌then◌else◌, List, [], ◌∷◌, ◌++◌, length, flat_map, Option, None, Some, is_none, option_map, unwrap_or}
use Rattle.std.specs.List.{filter}
use Rattle.sl_packet.specs.Packet.{longest_packet}
use Rattle.sl_packet.specs.Packets.{ArePacketsOf, rest_of}
use Rattle.sl_tcframe.specs.TcFrame.{TcView}
use Rattle.sl_tcflow.specs.Farms.{verdict_on}
use Rattle.sl_tcflow.specs.Incomplete.{IsIncomplete, incomplete_of, exceeds_limit}
use Rattle.sl_tcflow.specs.Receiver.{unit_map, segment_by}
use Rattle.sl_tcflow.specs.Reception.{segments_of}
use Rattle.sl_tcflow.specs.ReceptionParameters.{ReceptionParameters, is_plain}
use Rattle.sl_tcflow.specs.Series.{flags_begin, flags_continue, IsSeriesOf, SeriesAt, flags_of, segment_data, past, reassembled, series_of}
use Rattle.sl_tcflow.specs.StepReport.{StepReport}

-- ---- the next segment of a MAP, after those of a list

-- whether a segment is a continuing or a last one
abbrev pub continues : List ℕ → Bool
continues segment = flags_continue (flags_of segment)

-- whether a segment is a first one, or has no segmentation
abbrev pub begins : List ℕ → Bool
begins segment = flags_begin (flags_of segment)

-- how many octets so far the incomplete series has, if there is one
abbrev pub number_held : List (List ℕ) → Option ℕ
number_held list = option_map length (incomplete_of list)

-- how many octets so far the incomplete series has, and 0 where no series is incomplete
abbrev pub held_of : List (List ℕ) → ℕ
held_of list = unwrap_or (number_held list) 0

-- whether the next segment is out of sequence: it continues a series where none is incomplete
abbrev pub stray_of : List (List ℕ) → List ℕ → Bool
stray_of list next = continues next && is_none (incomplete_of list)

-- how many octets so far the dropped series has, if one is dropped: one is incomplete, and the next
-- segment begins another one
abbrev pub dropped_of : List (List ℕ) → List ℕ → Option ℕ
dropped_of list next = if begins next then number_held list else None

-- whether the incomplete series is given up, because it is too long with the next segment, which
-- continues it
abbrev pub long_of : List (List ℕ) → List ℕ → Bool
long_of list next = continues next && exceeds_limit (number_held list) (length (segment_data next))

-- the octets that are left after the packets of a series' service data unit, and none where this
-- service data unit is too long
abbrev pub rest_of_series : List (List ℕ) → List ℕ
rest_of_series segments =
    if nat_le (length (reassembled segments)) longest_packet then rest_of (reassembled segments) else []

-- how many octets are left of the service data unit that ends with the next segment, and 0 where
-- none ends or it is too long
abbrev pub tail_of : List (List ℕ) → List ℕ → ℕ
tail_of list next =
    length (flat_map (λ (s : SeriesAt). rest_of_series s.segments)
    (filter (λ (s : SeriesAt). past s == length list + 1) (series_of (list ++ next ∷ []))))

-- ---- the anomalies as relations

-- The next segment is out of sequence: it continues a series, and none is incomplete.
pub record IsStray (list : List (List ℕ)) (next : List ℕ) : Type 0 where
  pub goes_on : (flags_of next ≡ 0) ⊎ (flags_of next ≡ 2)
  pub none : (octets : List ℕ) → IsIncomplete list octets → ⊥

-- A series is dropped: it is incomplete, with `count` octets, and the next segment begins another
-- one.
pub record IsDropped (list : List (List ℕ)) (next : List ℕ) (count : ℕ) : Type 0 where
  pub anew : (flags_of next ≡ 1) ⊎ (flags_of next ≡ 3)
  pub octets : List ℕ
  pub incomplete : IsIncomplete list octets
  pub count_is : count ≡ length octets

-- A series is given up: it is incomplete, the next segment continues it, and both have too many
-- octets together.
pub record IsLong (list : List (List ℕ)) (next : List ℕ) : Type 0 where
  pub goes_on : (flags_of next ≡ 0) ⊎ (flags_of next ≡ 2)
  pub octets : List ℕ
  pub incomplete : IsIncomplete list octets
  pub too_many : longest_packet < length octets + length (segment_data next)

-- The next segment ends a series, whose service data unit isn't too long, and `count` octets are left
-- after the packets of this service data unit, also where `count` is 0.
pub record HasTail (list : List (List ℕ)) (next : List ℕ) (count : ℕ) : Type 0 where
  pub ended : SeriesAt
  pub series : IsSeriesOf (list ++ next ∷ []) ended
  pub here : past ended ≡ length list + 1
  pub fits : length (reassembled ended.segments) ≤ longest_packet
  pub packets : List (List ℕ)
  pub left : List ℕ
  pub are_packets : ArePacketsOf (reassembled ended.segments) packets left
  pub count_is : count ≡ length left

-- ---- the next frame, after others

-- what a report says of a segment (`told`), as a value of the type `X`, or `none` where there is no
-- segment; the segments are a list of one or none
abbrev pub told_of_segment : {X : Type 0} → X → (List ℕ → X) → List (List ℕ) → X
told_of_segment none told [] = none
told_of_segment none told (segment ∷ segments) = told segment

-- what a report says of the segment of the frame's unit, where the unit is accepted; `none` where it
-- isn't, as `segment_by` is an empty list then. Here `told` takes two arguments: the segments that came
-- before on the MAP, and the segment.
abbrev pub of_accepted :
    {X : Type 0} → X → (List (List ℕ) → List ℕ → X) → ReceptionParameters → List TcView → TcView → X
of_accepted none told r views next =
    told_of_segment none (told (segments_of r next.vc (unit_map r next) views)) (segment_by r views next)

-- whether the frame's unit is accepted and out of sequence
abbrev pub stray_by : ReceptionParameters → List TcView → TcView → Bool
stray_by r views next = of_accepted false stray_of r views next

-- how many octets the series has that the frame's accepted unit drops, if it drops one
abbrev pub dropped_by : ReceptionParameters → List TcView → TcView → Option ℕ
dropped_by r views next = of_accepted None dropped_of r views next

-- whether the incomplete series is given up, because it is too long with the frame's accepted unit
abbrev pub long_by : ReceptionParameters → List TcView → TcView → Bool
long_by r views next = of_accepted false long_of r views next

-- how many octets are left of the service data unit that the frame's accepted unit completes
abbrev pub tail_by : ReceptionParameters → List TcView → TcView → ℕ
tail_by r views next = of_accepted 0 tail_of r views next

-- What the report on the next frame says apart from packets: the verdict on the frame, the MAP of
-- its unit, and the unit's anomalies. Only contracts of private functions cite this record.
pub record IsReportOnFrame (r : ReceptionParameters) (views : List TcView) (next : TcView) (step : StepReport)
    : Type 0 where
  pub verdict : step.verdict ≡ verdict_on r views next
  pub map : step.map ≡ unit_map r next
  pub stray : step.stray ≡ stray_by r views next
  pub dropped : step.dropped ≡ dropped_by r views next
  pub long : step.long ≡ long_by r views next
  pub tail : step.tail ≡ tail_by r views next

-- ---- laws

-- A segment that is out of sequence is reported.
abbrev pub StrayIsTold : Type 0
StrayIsTold = (list : List (List ℕ)) (next : List ℕ) → IsStray list next → stray_of list next ≡ true

-- A segment that is reported as out of sequence is out of sequence.
abbrev pub WhatIsToldIsStray : Type 0
WhatIsToldIsStray = (list : List (List ℕ)) (next : List ℕ) → stray_of list next ≡ true → IsStray list next

-- A dropped series is reported, with the number of its octets.
abbrev pub DroppedIsTold : Type 0
DroppedIsTold =
    (list : List (List ℕ)) (next : List ℕ) (count : ℕ) → IsDropped list next count → dropped_of list next ≡ Some count

-- A series that is reported as dropped is dropped, with this number of octets.
abbrev pub WhatIsToldIsDropped : Type 0
WhatIsToldIsDropped =
    (list : List (List ℕ)) (next : List ℕ) (count : ℕ) → dropped_of list next ≡ Some count → IsDropped list next count

-- A series that is too long is reported.
abbrev pub LongIsTold : Type 0
LongIsTold = (list : List (List ℕ)) (next : List ℕ) → IsLong list next → long_of list next ≡ true

-- A series that is reported as too long is too long.
abbrev pub WhatIsToldIsLong : Type 0
WhatIsToldIsLong = (list : List (List ℕ)) (next : List ℕ) → long_of list next ≡ true → IsLong list next

-- Octets that are left are reported, with their number.
abbrev pub TailIsTold : Type 0
TailIsTold = (list : List (List ℕ)) (next : List ℕ) (count : ℕ) → HasTail list next count → tail_of list next ≡ count

-- Where octets are reported as left, this number of octets is left.
abbrev pub WhatIsToldIsTail : Type 0
WhatIsToldIsTail =
    (list : List (List ℕ)) (next : List ℕ) → 0 < tail_of list next → HasTail list next (tail_of list next)

-- On a virtual channel without segment headers no series is ever incomplete, on any MAP.
abbrev pub NoPlainSeriesIsIncomplete : Type 0
NoPlainSeriesIsIncomplete =
    (r : ReceptionParameters) (vc map_id : ℕ) (views : List TcView) → is_plain r vc ≡ true
    → incomplete_of (segments_of r vc map_id views) ≡ None

-- A unit has no anomaly but octets that are left: it isn't out of sequence, it drops no series, and
-- it makes none too long.
pub record HasTailAlone (r : ReceptionParameters) (views : List TcView) (next : TcView) : Type 0 where
  pub stray : stray_by r views next ≡ false
  pub dropped : dropped_by r views next ≡ None
  pub long : long_by r views next ≡ false

-- A unit on a virtual channel without segment headers has no anomaly but octets that are left.
abbrev pub PlainUnitHasTailAlone : Type 0
PlainUnitHasTailAlone =
    (r : ReceptionParameters) (views : List TcView) (next : TcView) → is_plain r next.vc ≡ true
    → HasTailAlone r views next
