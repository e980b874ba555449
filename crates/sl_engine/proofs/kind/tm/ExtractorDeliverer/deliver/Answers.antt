use Rattle.std.proofs.Common.{rules, ◌≡◌, ◌≢◌, ◌∙◌, arith, Ok, Err, ap, refl, sym}
use Rattle.std.specs.Prelude.{is_err}
use Rattle.sl_packet.specs.declared.flow_fault.FlowFault.TheVariants.{Failed}
use Rattle.sl_tmflow.specs.VirtualChannel.{views_of}
use Rattle.sl_engine.specs.Kind.Tm.{as_read, ended_in, found_after, vc_of}
use Rattle.sl_engine.specs.Link.Managed.{tm_format}
use Rattle.sl_engine.proofs.lemmas.Kind.Delivery.{delivers_as}
use Rattle.sl_engine.proofs.lemmas.Kind.Tm.{finding_is, is_incomplete_at_last, one_processed, some_octets}
use Rattle.sl_engine.proofs.lemmas.Link.Fault.{never_failed}
use Rattle.sl_engine.proofs.kind.tm.ExtractorDeliverer.deliver.Goals as goal

pub returns-in-Err-clause-processed : goal.returns-in-Err-clause-processed
returns-in-Err-clause-processed g c =
    let p = c.args.managed.now in
    let skipped : as_read p c.args.frame.now ≡ Err c.in-Err.reason = search rules in
    λ before h.
    let long = some_octets c.args.frame.now c.managed.invariant.allowed c.managed.view_is c.requires.2 in
    one_processed c.args.frame.now long h skipped h.processed

pub returns-in-Err-clause-delivers : goal.returns-in-Err-clause-delivers
returns-in-Err-clause-delivers g c =
    let p = c.args.managed.now in
    let skipped : as_read p c.args.frame.now ≡ Err c.in-Err.reason = search rules in
    λ before h.
    let seen = views_of (tm_format p) p.spacecraft before in
    let long = some_octets c.args.frame.now c.managed.invariant.allowed c.managed.view_is c.requires.2 in
    delivers_as (ap vc_of skipped) (ap (ended_in seen) skipped) (ap is_err skipped) (omega (arith, long)) refl refl refl refl

pub returns-in-Err-clause-found : goal.returns-in-Err-clause-found
returns-in-Err-clause-found g c =
    let p = c.args.managed.now in
    let skipped : as_read p c.args.frame.now ≡ Err c.in-Err.reason = search rules in
    λ before h. sym (ap (found_after (views_of (tm_format p) p.spacecraft before)) skipped)

pub returns-clause-processed : goal.returns-clause-processed
returns-clause-processed g c =
    let p = c.args.managed.now in
    let read : as_read p c.args.frame.now ≡ Ok c.in-Ok.view = search rules in
    λ before h.
    let seen = views_of (tm_format p) p.spacecraft before in
    let long = some_octets c.args.frame.now c.managed.invariant.allowed c.managed.view_is c.requires.2 in
    one_processed c.args.frame.now long h read (c.in-Ok-frame.ensures.processed seen h.processed)

pub returns-clause-delivers : goal.returns-clause-delivers
returns-clause-delivers g c =
    let p = c.args.managed.now in
    let view = c.in-Ok.view in
    let read : as_read p c.args.frame.now ≡ Ok view = search rules in
    λ before h.
    let seen = views_of (tm_format p) p.spacecraft before in
    let long = some_octets c.args.frame.now c.managed.invariant.allowed c.managed.view_is c.requires.2 in
    delivers_as (ap vc_of read) (ap (ended_in seen) read) (ap is_err read)
    (omega (arith, long)) (c.in-Ok-frame.ensures.accepted seen h.processed) c.report_of.ensures.is_read
    (c.report_of.ensures.packets ∙ c.in-Ok-frame.ensures.packets seen h.processed) (c.report_of.ensures.idle ∙ c.in-Ok-frame.ensures.idle seen h.processed)

pub returns-clause-found : goal.returns-clause-found
returns-clause-found g c =
    let p = c.args.managed.now in
    let read : as_read p c.args.frame.now ≡ Ok c.in-Ok.view = search rules in
    λ before h.
    let seen = views_of (tm_format p) p.spacecraft before in
    let e = c.in-Ok-frame.ensures in
    c.report_of.ensures.found ∙ finding_is p c.args.frame.now seen c.in-Ok-frame.step read (e.gap seen h.processed) (e.dropped seen h.processed) e.foreign

pub returns-in-Err-frame-clause-stopped : goal.returns-in-Err-frame-clause-stopped
returns-in-Err-frame-clause-stopped g c =
    let p = c.args.managed.now in
    let view = c.in-Ok.view in
    let read : as_read p c.args.frame.now ≡ Ok view = search rules in
    let is : c.frame.result ≡ Err c.in-Err-frame.fault = search rules in
    λ before h.
    let seen = views_of (tm_format p) p.spacecraft before in
    let had = h.processed in
    let ne : c.in-Err-frame.fault ≢ Failed = never_failed c.args.self.now.has_failed c.frame.result c.in-Err-frame.fault is (λ e. (c.frame.ensures.left e).0) had.working in
    rw (ap vc_of read, ap (ended_in seen) read) ((c.in-Err-frame.ensures.stopped ne).1 seen had)

pub returns-in-Err-frame-clause-memory : goal.returns-in-Err-frame-clause-memory
returns-in-Err-frame-clause-memory g c =
    let p = c.args.managed.now in
    let read : as_read p c.args.frame.now ≡ Ok c.in-Ok.view = search rules in
    λ before h e. is_incomplete_at_last before c.args.frame.now read (c.in-Err-frame.ensures.memory e (views_of (tm_format p) p.spacecraft before) h.processed)
