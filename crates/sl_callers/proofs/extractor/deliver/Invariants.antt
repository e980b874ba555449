use Rattle.std.proofs.Common.{drop}
use Rattle.sl_callers.proofs.Handing.{IsHandingTm}
use Rattle.sl_callers.proofs.extractor.deliver.Given as goal

abbrev pub invariant-loop-frame : goal.invariant-loop-frame
invariant-loop-frame l = IsHandingTm l.frames (drop l.frame-index l.frames) l.extractor l.delivered.lists
