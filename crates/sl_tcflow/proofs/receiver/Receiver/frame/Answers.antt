use Rattle.std.proofs.Common.{◌∙◌, refl, sym, ap, subst}
use Rattle.sl_tcframe.specs.VcSet.{has_vc}
use Rattle.sl_tcflow.specs.Farms.{HaveStepped}
use Rattle.sl_tcflow.specs.Receiver.{AreIncomplete}
use Rattle.sl_tcflow.proofs.lemmas.Reception.Farm.{of_processed, plain_is}
use Rattle.sl_tcflow.proofs.receiver.Receiver.frame.Goals as goal

pub returns-in-Err-clause-stopped : goal.returns-in-Err-clause-stopped
returns-in-Err-clause-stopped g c =
    λ ne. (
      refl,
      λ r views processed.
          let farms = subst (λ l. HaveStepped r l views) (sym (ap (λ s. s.farms) c.self.view_is)) processed.farms in
          let series = subst (λ l. AreIncomplete r l views) (sym (ap (λ s. s.series.list) c.self.view_is)) processed.series in (
            record { failed = refl; farms = c.step-verdict.ensures.farms r views farms },
            (c.in-Err.ensures.hands_over r views (c.has-plain.ensures.value ∙ ap (has_vc c.self.inside.plain) c.vc.ensures.value ∙ plain_is r _ _ c.args.frame.now.vc c.self.view_is processed.plain) series (c.step-verdict.ensures.verdict r views farms)).stopped,
          ),
    )

pub returns-in-Ok-clause-processed : goal.returns-in-Ok-clause-processed
returns-in-Ok-clause-processed g c =
    λ r views processed.
    let farms = subst (λ l. HaveStepped r l views) (sym (ap (λ s. s.farms) c.self.view_is)) processed.farms in
    let series = subst (λ l. AreIncomplete r l views) (sym (ap (λ s. s.series.list) c.self.view_is)) processed.series in
    record {
      working = ap (λ s. s.has_failed) c.self.view_is ∙ processed.working;
      plain = ap (λ s. s.plain) c.self.view_is ∙ processed.plain;
      farms = c.step-verdict.ensures.farms r views farms;
      series = c.in-Ok.ensures.series r views (c.has-plain.ensures.value ∙ ap (has_vc c.self.inside.plain) c.vc.ensures.value ∙ plain_is r _ _ c.args.frame.now.vc c.self.view_is processed.plain) series (c.step-verdict.ensures.verdict r views farms);
    }

pub returns-in-Err-clause-memory : goal.returns-in-Err-clause-memory
returns-in-Err-clause-memory g c e r views processed =
    let farms = subst (λ l. HaveStepped r l views) (sym (ap (λ s. s.farms) c.self.view_is)) processed.farms in
    let series = subst (λ l. AreIncomplete r l views) (sym (ap (λ s. s.series.list) c.self.view_is)) processed.series in
    c.in-Err.ensures.memory e r views (c.has-plain.ensures.value ∙ ap (has_vc c.self.inside.plain) c.vc.ensures.value ∙ plain_is r _ _ c.args.frame.now.vc c.self.view_is processed.plain) series (c.step-verdict.ensures.verdict r views farms)

pub returns-in-Ok-clause-accepted : goal.returns-in-Ok-clause-accepted
returns-in-Ok-clause-accepted g c r views processed = (of_processed _ _ _ _ _ _ c.self.view_is (c.has-plain.ensures.value ∙ ap (has_vc c.self.inside.plain) c.vc.ensures.value) c.step-verdict.ensures.verdict c.in-Ok.ensures.hands_over r views processed).accepted

pub returns-in-Ok-clause-verdict : goal.returns-in-Ok-clause-verdict
returns-in-Ok-clause-verdict g c r views processed = (of_processed _ _ _ _ _ _ c.self.view_is (c.has-plain.ensures.value ∙ ap (has_vc c.self.inside.plain) c.vc.ensures.value) c.step-verdict.ensures.verdict c.in-Ok.ensures.step r views processed).verdict

pub returns-in-Ok-clause-packets : goal.returns-in-Ok-clause-packets
returns-in-Ok-clause-packets g c r views processed = (of_processed _ _ _ _ _ _ c.self.view_is (c.has-plain.ensures.value ∙ ap (has_vc c.self.inside.plain) c.vc.ensures.value) c.step-verdict.ensures.verdict c.in-Ok.ensures.hands_over r views processed).packets

pub returns-in-Ok-clause-idle : goal.returns-in-Ok-clause-idle
returns-in-Ok-clause-idle g c r views processed = (of_processed _ _ _ _ _ _ c.self.view_is (c.has-plain.ensures.value ∙ ap (has_vc c.self.inside.plain) c.vc.ensures.value) c.step-verdict.ensures.verdict c.in-Ok.ensures.hands_over r views processed).idle

pub returns-in-Ok-clause-stray : goal.returns-in-Ok-clause-stray
returns-in-Ok-clause-stray g c r views processed = (of_processed _ _ _ _ _ _ c.self.view_is (c.has-plain.ensures.value ∙ ap (has_vc c.self.inside.plain) c.vc.ensures.value) c.step-verdict.ensures.verdict c.in-Ok.ensures.step r views processed).stray

pub returns-in-Ok-clause-dropped : goal.returns-in-Ok-clause-dropped
returns-in-Ok-clause-dropped g c r views processed = (of_processed _ _ _ _ _ _ c.self.view_is (c.has-plain.ensures.value ∙ ap (has_vc c.self.inside.plain) c.vc.ensures.value) c.step-verdict.ensures.verdict c.in-Ok.ensures.step r views processed).dropped

pub returns-in-Ok-clause-long : goal.returns-in-Ok-clause-long
returns-in-Ok-clause-long g c r views processed = (of_processed _ _ _ _ _ _ c.self.view_is (c.has-plain.ensures.value ∙ ap (has_vc c.self.inside.plain) c.vc.ensures.value) c.step-verdict.ensures.verdict c.in-Ok.ensures.step r views processed).long

pub returns-in-Ok-clause-tail : goal.returns-in-Ok-clause-tail
returns-in-Ok-clause-tail g c r views processed = (of_processed _ _ _ _ _ _ c.self.view_is (c.has-plain.ensures.value ∙ ap (has_vc c.self.inside.plain) c.vc.ensures.value) c.step-verdict.ensures.verdict c.in-Ok.ensures.step r views processed).tail

pub returns-in-Ok-clause-map : goal.returns-in-Ok-clause-map
returns-in-Ok-clause-map g c r views processed = (of_processed _ _ _ _ _ _ c.self.view_is (c.has-plain.ensures.value ∙ ap (has_vc c.self.inside.plain) c.vc.ensures.value) c.step-verdict.ensures.verdict c.in-Ok.ensures.step r views processed).map

pub returns-in-Err-clause-capacity : goal.returns-in-Err-clause-capacity
returns-in-Err-clause-capacity g c changed r views processed =
    let farms = subst (λ l. HaveStepped r l views) (sym (ap (λ s. s.farms) c.self.view_is)) processed.farms in
    let series = subst (λ l. AreIncomplete r l views) (sym (ap (λ s. s.series.list) c.self.view_is)) processed.series in
    c.in-Err.ensures.capacity (λ same. changed (same ∙ ap (λ s. s.series.capacity) c.self.view_is)) r views
    (c.has-plain.ensures.value ∙ ap (has_vc c.self.inside.plain) c.vc.ensures.value ∙ plain_is r _ _ c.args.frame.now.vc c.self.view_is processed.plain)
    series (c.step-verdict.ensures.verdict r views farms)

pub returns-in-Ok-clause-capacity : goal.returns-in-Ok-clause-capacity
returns-in-Ok-clause-capacity g c changed r views processed =
    let farms = subst (λ l. HaveStepped r l views) (sym (ap (λ s. s.farms) c.self.view_is)) processed.farms in
    let series = subst (λ l. AreIncomplete r l views) (sym (ap (λ s. s.series.list) c.self.view_is)) processed.series in
    c.in-Ok.ensures.capacity (λ same. changed (same ∙ ap (λ s. s.series.capacity) c.self.view_is)) r views
    (c.has-plain.ensures.value ∙ ap (has_vc c.self.inside.plain) c.vc.ensures.value ∙ plain_is r _ _ c.args.frame.now.vc c.self.view_is processed.plain)
    series (c.step-verdict.ensures.verdict r views farms)
