use Rattle.std.proofs.Common.{inl, refl}
use Rattle.sllink_compare.proofs.RunLemmas.{ended, stopped_writing}
use Rattle.sllink_compare.proofs.run.run.Goals as goal

pub returns-in-Ok-clause-ended : goal.returns-in-Ok-clause-ended
returns-in-Ok-clause-ended g c =
    λ no_fault. ended c.args.comparison.now c.args.names.now c.in-Ok.compared c.in-Ok.ensures.compared (c.answer.ensures.ended no_fault) (c.answer.ensures.status no_fault) (c.answer.ensures.asked no_fault)

pub returns-in-Ok-clause-stopped : goal.returns-in-Ok-clause-stopped
returns-in-Ok-clause-stopped g c =
    λ is. stopped_writing c.args.comparison.now c.args.names.now c.in-Ok.compared c.in-Ok.ensures.compared (c.answer.ensures.stopped is)

pub returns-in-Err-clause-stopped : goal.returns-in-Err-clause-stopped
returns-in-Err-clause-stopped g c =
    λ is. record {
      fault = c.in-Err.fault;
      said = c.report_fault.ensures.said;
      stopped = inl (c.in-Err.ensures.stopped, c.in-Err.ensures.memory, refl);
    }
