use Rattle.std.proofs.Common.{ap}
use Rattle.sl_engine.specs.Kind.Tc.{TcFinding}
use Rattle.sl_engine.proofs.lemmas.Verbs.Check.Lines.{joined_five}
use Rattle.sl_engine.proofs.verbs.check.lines_tc.tc_found_lines.Goals as goal

pub returns-clause-text : goal.returns-clause-text
returns-clause-text c =
    let is = c.found.view_is in
    rw (
      c.from.ensures,
      c.from-2.ensures,
      c.is_some.ensures,
      ap (λ (f : TcFinding). f.vc) is,
      ap (λ (f : TcFinding). f.map) is,
      ap (λ (f : TcFinding). f.stray) is,
      ap (λ (f : TcFinding). f.dropped) is,
      ap (λ (f : TcFinding). f.long) is,
      ap (λ (f : TcFinding). f.tail) is,
    )
    at (joined_five c.discarded_lines-discarded.ensures c.event_lines-stray.ensures c.event_lines-drops.ensures c.event_lines-long.ensures
    c.event_lines-tails.ensures)
