use Rattle.std.proofs.Common.{ℕ, List, ◌+◌, ◌-◌}
use Rattle.sl_engine.specs.Framing.{HasCutAll, HasPassed}
use Rattle.sl_engine.proofs.framing.read_recording.Given as goal

abbrev pub invariant-loop-framer : goal.invariant-loop-framer
invariant-loop-framer g l = (so_far : List ℕ)
    × HasPassed g.R.Read.remaining l.fn.reader l.reader l.managed.max_octets l.octets
    (HasCutAll g.S.Framer.Framer.is_frame g.S.Framer.Framer.waits g.S.Framer.Framer.frames_of (g.S.FrameSink.took l.managed l.fn.sink l.sink) l.managed l.framer) so_far

abbrev pub decreases-loop-framer : goal.decreases-loop-framer
decreases-loop-framer g l = l.managed.max_octets + 1 - l.octets
