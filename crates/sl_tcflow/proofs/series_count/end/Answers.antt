use Rattle.std.proofs.Common.{◌≡◌, ℕ, ◌+◌, nat_le, nat_lt, if◌then◌else◌, Bool, true, false, List, ◌++◌, Option, None, Some, length, refl, sym, ap, arith, ◌∙◌, subst, length-append}
use Rattle.std.proofs.lemmas.Bool.Decides.{nat_tests}
use Rattle.sl_packet.specs.Packet.{longest_packet}
use Rattle.sl_tcflow.specs.IncompleteSteps.{IsReportOnSegment, extended, rest_of_service_unit, service_unit_report}
use Rattle.sl_tcflow.specs.StepReport.{StepReport}
use Rattle.sl_tcflow.specs.UnitCount.{CountsSeries, IsCountOf}
use Rattle.sl_tcflow.specs.declared.unit_count.UnitCount.{UnitCount}
use Rattle.sl_tcflow.proofs.series_count.end.Goals as goal

counted_if : (fits : Bool) (octets : List ℕ) (count : UnitCount) → CountsSeries (if fits then Some octets else None) (Some count) → (fits ≡ true) × IsCountOf octets count
counted_if true octets count is = (refl, is)
counted_if false octets count is = absurd is

not_long : (most n m : ℕ) → nat_le n most ≡ true → n ≡ m → false ≡ nat_lt most m
not_long most n m fits same = grind (arith, nat_tests)

-- the series that ends isn't too long, and its packets are reported
ended : (before : Option (List ℕ)) (octets : List ℕ) (count : UnitCount) (step : StepReport) → CountsSeries (extended before octets) (Some count)
    → ((together : List ℕ) → IsCountOf together count → step ≡ service_unit_report together) → IsReportOnSegment before 2 octets step
ended None octets count step is report = absurd is
ended (Some before) octets count step is report =
    let both = before ++ octets in
    let (fits, counted) = counted_if (nat_le (length both) longest_packet) both count is in
    let told = report both counted in
    record {
      verdict = ap (λ (s : StepReport). s.verdict) told;
      stray = ap (λ (s : StepReport). s.stray) told;
      dropped = ap (λ (s : StepReport). s.dropped) told;
      long = ap (λ (s : StepReport). s.long) told ∙ not_long longest_packet (length both) (length before + length octets) fits (length-append before octets);
      tail = ap (λ (s : StepReport). s.tail) told ∙ ap (λ fits. length (rest_of_service_unit (if fits then Some both else None))) (sym fits);
    }

pub returns-clause-step : goal.returns-clause-step
returns-clause-step c before is =
    ended before c.args.octets.now c.in-Some.count c.report.result
    (subst (CountsSeries (extended before c.args.octets.now)) c.in-Some.is (c.extend-step.ensures.series before is)) c.report.ensures
