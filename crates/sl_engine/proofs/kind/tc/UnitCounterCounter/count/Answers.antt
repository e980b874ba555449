use Rattle.std.proofs.Common.{rules, ◌≡◌, ◌∙◌, Ok, Err, ap, inr, refl, sym}
use Rattle.std.specs.Prelude.{is_err}
use Rattle.sl_tcflow.specs.AcceptedUnit.{views_of}
use Rattle.sl_engine.specs.Kind.Tc.{as_read, ended_in, found_after}
use Rattle.sl_engine.specs.Link.Managed.{reception_of, tc_format}
use Rattle.sl_engine.proofs.lemmas.Kind.Delivery.{brings_as}
use Rattle.sl_engine.proofs.lemmas.Kind.Tc.{finding_is, is_incomplete_at_last, one_processed, some_octets}
use Rattle.sl_engine.proofs.kind.tc.UnitCounterCounter.count.Goals as goal

pub returns-in-Err-clause-processed : goal.returns-in-Err-clause-processed
returns-in-Err-clause-processed c =
    let p = c.args.managed.now in
    let skipped : as_read p c.args.frame.now ≡ Err c.in-Err.reason = search rules in
    λ before h. one_processed c.args.frame.now h skipped h.processed

pub returns-in-Err-clause-brings : goal.returns-in-Err-clause-brings
returns-in-Err-clause-brings c =
    let p = c.args.managed.now in
    let skipped : as_read p c.args.frame.now ≡ Err c.in-Err.reason = search rules in
    λ before h.
    let seen = views_of (tc_format p) p.spacecraft before in
    brings_as (ap (ended_in (reception_of p) seen) skipped) (ap is_err skipped) (some_octets p c.args.frame.now c.requires.2) refl refl refl

pub returns-in-Err-clause-found : goal.returns-in-Err-clause-found
returns-in-Err-clause-found c =
    let p = c.args.managed.now in
    let skipped : as_read p c.args.frame.now ≡ Err c.in-Err.reason = search rules in
    λ before h. sym (ap (found_after (reception_of p) (views_of (tc_format p) p.spacecraft before)) skipped)

pub returns-clause-processed : goal.returns-clause-processed
returns-clause-processed c =
    let p = c.args.managed.now in
    let read : as_read p c.args.frame.now ≡ Ok c.in-Ok.view = search rules in
    λ before h. one_processed c.args.frame.now h read (c.in-Ok-frame.ensures.processed (reception_of p) (views_of (tc_format p) p.spacecraft before) h.processed)

pub returns-clause-brings : goal.returns-clause-brings
returns-clause-brings c =
    let p = c.args.managed.now in
    let read : as_read p c.args.frame.now ≡ Ok c.in-Ok.view = search rules in
    λ before h.
    let r = reception_of p in
    let seen = views_of (tc_format p) p.spacecraft before in
    brings_as (ap (ended_in r seen) read) (ap is_err read) (some_octets p c.args.frame.now c.requires.2) c.report_of.ensures.is_read
    (c.report_of.ensures.packets ∙ c.in-Ok-frame.ensures.packets r seen h.processed) (c.report_of.ensures.idle ∙ c.in-Ok-frame.ensures.idle r seen h.processed)

pub returns-clause-found : goal.returns-clause-found
returns-clause-found c =
    let p = c.args.managed.now in
    let read : as_read p c.args.frame.now ≡ Ok c.in-Ok.view = search rules in
    λ before h.
    let r = reception_of p in
    let seen = views_of (tc_format p) p.spacecraft before in
    let e = c.in-Ok-frame.ensures in
    c.report_of.ensures.found ∙ finding_is p c.args.frame.now r seen c.in-Ok-frame.step read (e.map r seen h.processed) (e.verdict r seen h.processed) (e.stray r seen h.processed)
    (e.dropped r seen h.processed) (e.long r seen h.processed) (e.tail r seen h.processed)

pub returns-in-Err-frame-clause-memory : goal.returns-in-Err-frame-clause-memory
returns-in-Err-frame-clause-memory c =
    let p = c.args.managed.now in
    let read : as_read p c.args.frame.now ≡ Ok c.in-Ok.view = search rules in
    λ before h.
    let m = c.in-Err-frame.ensures.memory (reception_of p) (views_of (tc_format p) p.spacecraft before) h.processed in
    (refl, is_incomplete_at_last before c.args.frame.now read (m.0, inr m.1))
