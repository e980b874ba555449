use Rattle.std.proofs.Common.{◌≡◌, length, rules}
use Rattle.std.specs.List.{concat}
use Rattle.sl_tmframe.specs.TmFrame.{tm_frame}
use Rattle.sl_engine.specs.Link.Managed.{tm_format}
use Rattle.sl_engine.proofs.lemmas.Io.Words.{line_after}
use Rattle.sl_engine.proofs.verbs.show.shown.TmFramesShown.show.Goals as goal

pub returns-clause-line : goal.returns-clause-line
returns-clause-line c = λ before start h offset.
    let p = c.args.managed.now in
    let read : c.read-read.result ≡ tm_frame (tm_format p) p.spacecraft c.args.frame.now = search rules in
    line_after start _ (length (concat before)) offset (rw read at c.tm_frame_line.ensures)
