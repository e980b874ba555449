use Rattle.std.proofs.Common.{ℕ, List, length}
use Rattle.sl_engine.specs.Framing.{HasCutFrames}
use Rattle.sl_engine.proofs.framing.cut_chunk.Given as goal

abbrev pub invariant-loop-frame : goal.invariant-loop-frame
invariant-loop-frame g l =
    (start : g.row.S.Denot) (octets : List ℕ) → HasCutFrames g.S.Framer.Framer.is_frame g.S.Framer.Framer.waits (g.S.FrameSink.took l.managed start l.fn.sink) l.managed l.fn.framer octets l.chunk
    → HasCutFrames g.S.Framer.Framer.is_frame g.S.Framer.Framer.waits (g.S.FrameSink.took l.managed start l.sink) l.managed l.framer octets l.left

abbrev pub decreases-loop-frame : goal.decreases-loop-frame
decreases-loop-frame g l = length l.left
