-- What is counted of a service data unit that comes in parts, CCSDS 232.0-B, and whose octets aren't
-- kept. Only contracts of private functions and lemmas cite `ForSeriesOf`.
use Rattle.std.specs.Prelude.{◌≡◌, ℕ, List, Option, None, Some, ⊤, length}
use Rattle.sl_packet.specs.Outline.{HasOutline}
use Rattle.sl_packet.specs.Packets.{only_idle, packets_of, rest_of, without_idle}
use Rattle.sl_tcflow.specs.StepReport.{StepReport}
use Rattle.sl_tcflow.specs.declared.unit_count.UnitCount.{UnitCount}

-- There are as many of these octets as the count says. The packets at their front are counted, idle
-- ones apart, and the outline is that of the octets after these packets.
pub record IsCountOf (octets : List ℕ) (count : UnitCount) : Type 0 where
  pub size : count.octets ≡ length octets
  pub packets : count.packets ≡ length (without_idle (packets_of octets))
  pub idle : count.idle ≡ length (only_idle (packets_of octets))
  pub rest : HasOutline (rest_of octets) count.rest

-- The count is that of the octets so far of an incomplete series, if there is one, and there is no
-- count where no series is incomplete.
abbrev pub CountsSeries : Option (List ℕ) → Option UnitCount → Type 0
CountsSeries None None = ⊤
CountsSeries None (Some count) = ⊥
CountsSeries (Some octets) None = ⊥
CountsSeries (Some octets) (Some count) = IsCountOf octets count

-- the property holds for all octets so far that may have this count
abbrev pub ForSeriesOf : Option UnitCount → (Option (List ℕ) → Type 0) → Type 0
ForSeriesOf series holds = (octets_before : Option (List ℕ)) → CountsSeries octets_before series → holds octets_before

-- the report has the numbers of these packets and of the idle ones among them
pub record ReportsPackets (ended : List (List ℕ)) (step : StepReport) : Type 0 where
  pub packets : step.packets ≡ length (without_idle ended)
  pub idle : step.idle ≡ length (only_idle ended)
