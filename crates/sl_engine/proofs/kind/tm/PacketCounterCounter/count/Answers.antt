use Rattle.std.proofs.Common.{rules, ◌≡◌, ◌∙◌, arith, Ok, Err, ap, refl, sym}
use Rattle.std.specs.Prelude.{is_err}
use Rattle.sl_tmflow.specs.VirtualChannel.{views_of}
use Rattle.sl_engine.specs.Kind.Tm.{as_read, ended_in, found_after}
use Rattle.sl_engine.specs.Link.Managed.{tm_format}
use Rattle.sl_engine.proofs.lemmas.Kind.Delivery.{brings_as}
use Rattle.sl_engine.proofs.lemmas.Kind.Tm.{finding_is, one_processed, some_octets}
use Rattle.sl_engine.proofs.kind.tm.PacketCounterCounter.count.Goals as goal

pub returns-in-Err-clause-processed : goal.returns-in-Err-clause-processed
returns-in-Err-clause-processed c =
    let p = c.args.managed.now in
    let skipped : as_read p c.args.frame.now ≡ Err c.in-Err.reason = search rules in
    let long = some_octets c.args.frame.now c.managed.invariant.allowed c.managed.view_is c.requires.2 in
    λ before h. one_processed c.args.frame.now long h skipped h.processed

pub returns-in-Err-clause-brings : goal.returns-in-Err-clause-brings
returns-in-Err-clause-brings c =
    let p = c.args.managed.now in
    let skipped : as_read p c.args.frame.now ≡ Err c.in-Err.reason = search rules in
    let long = some_octets c.args.frame.now c.managed.invariant.allowed c.managed.view_is c.requires.2 in
    λ before h. brings_as (ap (ended_in (views_of (tm_format p) p.spacecraft before)) skipped) (ap is_err skipped) (omega (arith, long)) refl refl refl

pub returns-in-Err-clause-found : goal.returns-in-Err-clause-found
returns-in-Err-clause-found c =
    let p = c.args.managed.now in
    let skipped : as_read p c.args.frame.now ≡ Err c.in-Err.reason = search rules in
    λ before h. sym (ap (found_after (views_of (tm_format p) p.spacecraft before)) skipped)

pub returns-clause-processed : goal.returns-clause-processed
returns-clause-processed c =
    let p = c.args.managed.now in
    let read : as_read p c.args.frame.now ≡ Ok c.in-Ok.view = search rules in
    let long = some_octets c.args.frame.now c.managed.invariant.allowed c.managed.view_is c.requires.2 in
    λ before h. one_processed c.args.frame.now long h read (c.frame.ensures.processed (views_of (tm_format p) p.spacecraft before) h.processed)

pub returns-clause-brings : goal.returns-clause-brings
returns-clause-brings c =
    let p = c.args.managed.now in
    let read : as_read p c.args.frame.now ≡ Ok c.in-Ok.view = search rules in
    let long = some_octets c.args.frame.now c.managed.invariant.allowed c.managed.view_is c.requires.2 in
    λ before h.
    let seen = views_of (tm_format p) p.spacecraft before in
    brings_as (ap (ended_in seen) read) (ap is_err read) (omega (arith, long)) c.report_of.ensures.is_read
    (c.report_of.ensures.packets ∙ c.frame.ensures.packets seen h.processed) (c.report_of.ensures.idle ∙ c.frame.ensures.idle seen h.processed)

pub returns-clause-found : goal.returns-clause-found
returns-clause-found c =
    let p = c.args.managed.now in
    let read : as_read p c.args.frame.now ≡ Ok c.in-Ok.view = search rules in
    λ before h.
    let seen = views_of (tm_format p) p.spacecraft before in
    let e = c.frame.ensures in
    c.report_of.ensures.found ∙ finding_is p c.args.frame.now seen c.frame.result read (e.gap seen h.processed) (e.dropped seen h.processed) e.foreign
