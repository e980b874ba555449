-- What the next segment of a MAP does, CCSDS 232.0-B. In this file `octets_before` is the octets so
-- far of the series that is incomplete before the segment, if there is one; `flags` is the segment's
-- sequence flags, first 1, continuing 0, last 2, no segmentation 3; and `octets` is the octets after
-- its segment header. Names with `_with` take what they need of these three. Names with `_after` take
-- `octets_before` and the segment itself. These are the code's steps, not the standard's: only
-- contracts of private functions and lemmas cite them, and lemmas tie them to the series of a MAP's
-- list.
use Rattle.std.specs.Prelude.{◌≡◌, ℕ, ◌==◌, ◌&&◌, Bool, false, if◌then◌else◌, is_none, option_map, List, [], ◌++◌, length, Option, None, Some}
use Rattle.sl_cop.specs.declared.verdict.Verdict.TheVariants.{Accept}
use Rattle.sl_packet.specs.Packets.{only_idle, packets_of, rest_of, without_idle}
use Rattle.sl_tcflow.specs.Incomplete.{if_fits, exceeds_limit}
use Rattle.sl_tcflow.specs.Series.{flags_begin, flags_continue, flags_of, segment_data}
use Rattle.sl_tcflow.specs.StepReport.{StepReport}

-- ---- the series

-- the octets of a series so far with those of one more segment, where there is a series and they
-- aren't too many
abbrev pub extended : Option (List ℕ) → List ℕ → Option (List ℕ)
extended None octets = None
extended (Some before) octets = if_fits (before ++ octets)

-- the octets of the series that is incomplete after the next segment, if one is: the segment begins
-- the series or continues it
abbrev pub incomplete_with : Option (List ℕ) → ℕ → List ℕ → Option (List ℕ)
incomplete_with octets_before flags octets =
    if flags == 1 then if_fits octets
    else if flags == 0 then extended octets_before octets
    else None

-- the same, from the segment itself
abbrev pub incomplete_after : Option (List ℕ) → List ℕ → Option (List ℕ)
incomplete_after octets_before next = incomplete_with octets_before (flags_of next) (segment_data next)

-- the service data unit that ends with the next segment, if one does: the segment has no
-- segmentation or is the last one of a series
abbrev pub service_unit_with : Option (List ℕ) → ℕ → List ℕ → Option (List ℕ)
service_unit_with octets_before flags octets =
    if flags == 3 then if_fits octets
    else if flags == 2 then extended octets_before octets
    else None

-- the same, from the segment itself
abbrev pub service_unit_after : Option (List ℕ) → List ℕ → Option (List ℕ)
service_unit_after octets_before next = service_unit_with octets_before (flags_of next) (segment_data next)

-- ---- its packets

-- the packets of a service data unit, if there is one
abbrev pub packets_of_service_unit : Option (List ℕ) → List (List ℕ)
packets_of_service_unit None = []
packets_of_service_unit (Some octets) = packets_of octets

-- the packets that end with the next segment
abbrev pub packets_with : Option (List ℕ) → ℕ → List ℕ → List (List ℕ)
packets_with octets_before flags octets = packets_of_service_unit (service_unit_with octets_before flags octets)

-- the same, from the segment itself
abbrev pub packets_after : Option (List ℕ) → List ℕ → List (List ℕ)
packets_after octets_before next = packets_with octets_before (flags_of next) (segment_data next)

-- the octets of a service data unit that are left after its packets; none where there is no such unit
abbrev pub rest_of_service_unit : Option (List ℕ) → List ℕ
rest_of_service_unit None = []
rest_of_service_unit (Some octets) = rest_of octets

-- how many octets are left of the service data unit that ends with the next segment, and 0 where
-- none ends
abbrev pub tail_with : Option (List ℕ) → ℕ → List ℕ → ℕ
tail_with octets_before flags octets = length (rest_of_service_unit (service_unit_with octets_before flags octets))

-- the same, from the segment itself
abbrev pub tail_after : Option (List ℕ) → List ℕ → ℕ
tail_after octets_before next = tail_with octets_before (flags_of next) (segment_data next)

-- ---- the anomalies of the next segment

-- whether the next segment is out of sequence: a continuing or a last one, where no series is incomplete
abbrev pub stray_with : Option (List ℕ) → ℕ → Bool
stray_with octets_before flags = flags_continue flags && is_none octets_before

-- how many octets so far the series has that the next segment drops, if it drops one
abbrev pub dropped_with : Option (List ℕ) → ℕ → Option ℕ
dropped_with octets_before flags = if flags_begin flags then option_map length octets_before else None

-- whether the incomplete series is given up, because it is too long with the next segment, a continuing or a
-- last one
abbrev pub long_with : Option (List ℕ) → ℕ → List ℕ → Bool
long_with octets_before flags octets =
    flags_continue flags && exceeds_limit (option_map length octets_before) (length octets)

-- ---- the report on the next segment

-- the report where the frame's unit is accepted, no service data unit ends and there is no anomaly;
-- the MAP is left 0 (`EMPTY_STEP` of the code)
abbrev pub empty_report : StepReport
empty_report =
    record { verdict = Accept; map = 0; packets = 0; idle = 0; stray = false; dropped = None; long = false; tail = 0 }

-- the report on a segment that ends a service data unit, which has these octets; whether the segment
-- drops a series isn't said here
abbrev pub service_unit_report : List ℕ → StepReport
service_unit_report octets = record empty_report {
  packets = length (without_idle (packets_of octets));
  idle = length (only_idle (packets_of octets));
  tail = length (rest_of octets);
}

-- the report on octets that continue the incomplete series, if there is one
abbrev pub continued_report : Option (List ℕ) → List ℕ → StepReport
continued_report octets_before octets = record empty_report {
  stray = is_none octets_before;
  long = exceeds_limit (option_map length octets_before) (length octets);
}

-- What the report on the next segment says apart from the MAP and the numbers of packets.
pub record IsReportOnSegment (octets_before : Option (List ℕ)) (flags : ℕ) (octets : List ℕ) (step : StepReport)
    : Type 0 where
  pub verdict : step.verdict ≡ Accept
  pub stray : step.stray ≡ stray_with octets_before flags
  pub dropped : step.dropped ≡ dropped_with octets_before flags
  pub long : step.long ≡ long_with octets_before flags octets
  pub tail : step.tail ≡ tail_with octets_before flags octets
