use Rattle.std.proofs.Common.{append_assoc}
use Rattle.sl_engine.proofs.verbs.show.lines_tc.tc_frame_line.Goals as goal
use Rattle.sl_engine.proofs.verbs.show.lines_tc.tc_frame_line.Goals.{in-Ok, in-Err}

pub returns-clause-farms : goal.returns-clause-farms
returns-clause-farms c = λ r views stepped.
    elim c.match-read.branch [
      | in-Ok w ↦ rw (w.farms-is, w.in-Ok.is) (w.push_tc_view.ensures.farms r views stepped)
      | in-Err w ↦ rw (w.farms-is, w.in-Err.is) stepped
    ]

pub returns-clause-line : goal.returns-clause-line
returns-clause-line c = λ r views stepped.
    elim c.match-read.branch [
      | in-Ok w ↦ simp (c.push.ensures, w.lines-is, w.push_tc_view.ensures.text r views stepped, w.in-Ok.is, w.has.ensures.value, w.vc.ensures.value, append_assoc)
      | in-Err w ↦ simp (c.push.ensures, w.lines-is, w.push_tc_skip.ensures.text, w.in-Err.is, append_assoc)
    ]
