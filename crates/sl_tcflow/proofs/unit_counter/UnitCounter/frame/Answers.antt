use Rattle.std.proofs.Common.{◌∙◌, ap, subst, sym}
use Rattle.sl_tcframe.specs.VcSet.{has_vc}
use Rattle.sl_tcflow.specs.Farms.{HaveStepped}
use Rattle.sl_tcflow.specs.UnitCounter.{AreCounted, CounterState}
use Rattle.sl_tcflow.proofs.lemmas.Counter.{of_counted}
use Rattle.sl_tcflow.proofs.unit_counter.UnitCounter.frame.Goals as goal

pub returns-clause-processed : goal.returns-clause-processed
returns-clause-processed c r views processed =
    record {
      plain = ap (λ (s : CounterState). s.plain) c.self.view_is ∙ processed.plain;
      farms = c.step-verdict.ensures.farms r views (subst (λ (s : CounterState). HaveStepped r s.farms views) (sym c.self.view_is) processed.farms);
      counts = of_counted _ _ _ _ _ _ c.self.view_is (c.has-plain.ensures.value ∙ ap (has_vc c.self.inside.plain) c.vc.ensures.value) c.step-verdict.ensures.verdict c.in-Ok.ensures.counts r views processed;
    }

pub returns-clause-verdict : goal.returns-clause-verdict
returns-clause-verdict c r views processed = (of_counted _ _ _ _ _ _ c.self.view_is (c.has-plain.ensures.value ∙ ap (has_vc c.self.inside.plain) c.vc.ensures.value) c.step-verdict.ensures.verdict c.in-Ok.ensures.step r views processed).verdict

pub returns-clause-map : goal.returns-clause-map
returns-clause-map c r views processed = (of_counted _ _ _ _ _ _ c.self.view_is (c.has-plain.ensures.value ∙ ap (has_vc c.self.inside.plain) c.vc.ensures.value) c.step-verdict.ensures.verdict c.in-Ok.ensures.step r views processed).map

pub returns-clause-packets : goal.returns-clause-packets
returns-clause-packets c r views processed = (of_counted _ _ _ _ _ _ c.self.view_is (c.has-plain.ensures.value ∙ ap (has_vc c.self.inside.plain) c.vc.ensures.value) c.step-verdict.ensures.verdict c.in-Ok.ensures.packets r views processed).packets

pub returns-clause-idle : goal.returns-clause-idle
returns-clause-idle c r views processed = (of_counted _ _ _ _ _ _ c.self.view_is (c.has-plain.ensures.value ∙ ap (has_vc c.self.inside.plain) c.vc.ensures.value) c.step-verdict.ensures.verdict c.in-Ok.ensures.packets r views processed).idle

pub returns-clause-stray : goal.returns-clause-stray
returns-clause-stray c r views processed = (of_counted _ _ _ _ _ _ c.self.view_is (c.has-plain.ensures.value ∙ ap (has_vc c.self.inside.plain) c.vc.ensures.value) c.step-verdict.ensures.verdict c.in-Ok.ensures.step r views processed).stray

pub returns-clause-dropped : goal.returns-clause-dropped
returns-clause-dropped c r views processed = (of_counted _ _ _ _ _ _ c.self.view_is (c.has-plain.ensures.value ∙ ap (has_vc c.self.inside.plain) c.vc.ensures.value) c.step-verdict.ensures.verdict c.in-Ok.ensures.step r views processed).dropped

pub returns-clause-long : goal.returns-clause-long
returns-clause-long c r views processed = (of_counted _ _ _ _ _ _ c.self.view_is (c.has-plain.ensures.value ∙ ap (has_vc c.self.inside.plain) c.vc.ensures.value) c.step-verdict.ensures.verdict c.in-Ok.ensures.step r views processed).long

pub returns-clause-tail : goal.returns-clause-tail
returns-clause-tail c r views processed = (of_counted _ _ _ _ _ _ c.self.view_is (c.has-plain.ensures.value ∙ ap (has_vc c.self.inside.plain) c.vc.ensures.value) c.step-verdict.ensures.verdict c.in-Ok.ensures.step r views processed).tail

pub returns-in-Err-clause-memory : goal.returns-in-Err-clause-memory
returns-in-Err-clause-memory c r views processed = of_counted _ _ _ _ _ _ c.self.view_is (c.has-plain.ensures.value ∙ ap (has_vc c.self.inside.plain) c.vc.ensures.value) c.step-verdict.ensures.verdict c.in-Err.ensures.memory r views processed

pub returns-in-Err-clause-refused : goal.returns-in-Err-clause-refused
returns-in-Err-clause-refused c r views processed =
    record {
      plain = ap (λ (s : CounterState). s.plain) c.self.view_is ∙ processed.plain;
      farms = c.step-verdict.ensures.farms r views (subst (λ (s : CounterState). HaveStepped r s.farms views) (sym c.self.view_is) processed.farms);
      counts = subst (λ counts. AreCounted r counts views) (sym (c.in-Err.ensures.kept ∙ ap (λ (s : CounterState). s.counts) c.self.view_is)) processed.counts;
    }
