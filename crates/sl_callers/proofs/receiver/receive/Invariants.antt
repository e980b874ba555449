use Rattle.std.proofs.Common.{drop}
use Rattle.sl_callers.proofs.Handing.{IsHandingTc, parameters}
use Rattle.sl_callers.proofs.receiver.receive.Given as goal

abbrev pub invariant-loop-frame : goal.invariant-loop-frame
invariant-loop-frame l = IsHandingTc (parameters l.fn.window l.fn.starts l.fn.plain) l.frames (drop l.frame-index l.frames) l.receiver l.delivered.lists
