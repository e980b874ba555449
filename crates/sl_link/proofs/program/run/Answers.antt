use Rattle.std.proofs.Common.{inl, inr, refl}
use Rattle.sl_link.proofs.lemmas.Program.Run.{with_answer}
use Rattle.sl_link.proofs.program.run.Goals as goal

pub returns-in-Err-clause-stopped : goal.returns-in-Err-clause-stopped
returns-in-Err-clause-stopped g c = λ is. elim (c.report_refusal.ensures.stopped is) [
  | inl lacks ↦ inl (refl, inl lacks.0)
  | inr text ↦ inl (refl, inr (with_answer c.in-Err.ensures.refused text))
]
