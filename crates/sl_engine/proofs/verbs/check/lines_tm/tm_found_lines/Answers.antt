use Rattle.std.proofs.Common.{ap}
use Rattle.sl_engine.specs.Kind.Tm.{TmFinding}
use Rattle.sl_engine.proofs.lemmas.Verbs.Check.Lines.{joined_four}
use Rattle.sl_engine.proofs.verbs.check.lines_tm.tm_found_lines.Goals as goal

pub returns-clause-text : goal.returns-clause-text
returns-clause-text c =
    let is = c.found.view_is in
    rw (
      c.from.ensures,
      ap (λ (f : TmFinding). f.vc) is,
      ap (λ (f : TmFinding). f.dropped) is,
      ap (λ (f : TmFinding). f.opaque) is,
      ap (λ (f : TmFinding). f.foreign) is,
    )
    at (joined_four c.gap_lines-gaps.ensures c.event_lines-drops.ensures c.event_lines-opaque.ensures c.event_lines-foreign.ensures)
