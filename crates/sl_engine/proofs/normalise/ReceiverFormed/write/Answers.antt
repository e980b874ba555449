use Rattle.std.proofs.Common.{◌≡◌, ◌≢◌, ◌∙◌, List, [], ℕ, arith, length, subst, sym}
use Rattle.std.proofs.lemmas.Result.{MatchResult-weaker, on_err_weaker, on_ok_weaker}
use Rattle.std.proofs.lemmas.List.{take_all}
use Rattle.sl_packet.specs.Delivered.{channel_count}
use Rattle.sl_tcflow.specs.Fits.{FitsTc}
use Rattle.sl_tcflow.proofs.lemmas.Form.Left.{none_at_all}
use Rattle.sl_tcflow.proofs.lemmas.Reception.PlainRecording.{recorded_lists_fit}
use Rattle.sl_engine.specs.Io.Streams.{StopsWriting, WritesText}
use Rattle.sl_engine.specs.Kind.Tc.{tc_kind}
use Rattle.sl_engine.specs.Link.Managed.{Parameters, reception_of, tc_format}
use Rattle.sl_engine.specs.Link.ManagedModel.{parameters_of}
use Rattle.sl_engine.specs.Normalise.Form.{channel_lists}
use Rattle.sl_engine.proofs.lemmas.Kind.Delivery.{all_stored}
use Rattle.sl_engine.proofs.lemmas.Kind.Tc.{tc_adds_by_channel}
use Rattle.sl_engine.proofs.lemmas.Io.Streams.{memory_weaker}
use Rattle.sl_engine.proofs.lemmas.Normalise.Form.{tc_form_delivers, tc_form_is}
use Rattle.sl_engine.proofs.normalise.ReceiverFormed.write.Goals as goal

-- each list is of a channel
all_of_channels : (p : Parameters) (lists : List (List (List ℕ))) → length lists ≡ channel_count → lists ≡ channel_lists (tc_kind p) lists
all_of_channels p lists size = sym (take_all channel_count lists (omega (arith, size)))

pub new-form-requires-clause-fits : goal.new-form-requires-clause-fits
new-form-requires-clause-fits g c =
    let p = c.args.managed.now in
    let r = c.requires in
    let are = all_of_channels p c.args.delivered.now.lists r.1.size ∙ all_stored (tc_kind p) (tc_adds_by_channel p) ((tc_kind p).frames_of r.0) c.args.delivered.now.lists r.1 in
    subst (λ (q : Parameters). FitsTc (tc_format q) q.plain c.args.delivered.now.lists) (sym c.managed.view_is)
    (subst (FitsTc (tc_format p) p.plain) (sym are) (recorded_lists_fit (tc_format p) p.spacecraft (reception_of p) r.0))

pub returns-clause-written : goal.returns-clause-written
returns-clause-written g c =
    let p = c.args.managed.now in
    let lists = c.args.delivered.now.lists in
    let is = tc_form_is p (parameters_of c.managed.inside) lists c.new-form.result c.new-form.ensures.all c.managed.view_is in
    rw (← all_of_channels p lists c.requires.1.size) (on_ok_weaker c.write_form.result (subst (WritesText g.W.Write.contents c.args.writer.now c.write_form.new.writer) is) c.write_form.ensures.written)

pub returns-clause-delivers : goal.returns-clause-delivers
returns-clause-delivers g c =
    let p = c.args.managed.now in
    let q = parameters_of c.managed.inside in
    let lists = c.args.delivered.now.lists in
    let is = tc_form_is p q lists c.new-form.result c.new-form.ensures.all c.managed.view_is in
    rw (← all_of_channels p lists c.requires.1.size, ← is) (tc_form_delivers p q lists c.new-form.result c.new-form.ensures.delivers c.managed.view_is)

pub returns-clause-fault : goal.returns-clause-fault
returns-clause-fault g c =
    let p = c.args.managed.now in
    let q = parameters_of c.managed.inside in
    let lists = c.args.delivered.now.lists in
    let is = tc_form_is p q lists c.new-form.result c.new-form.ensures.all c.managed.view_is in
    let size = c.requires.1.size in
    rw (← all_of_channels p lists size) (MatchResult-weaker c.write_form.result c.write_form.ensures.fault (λ _ u. u) (λ fault s.
    memory_weaker (λ w. (w.0, λ none. w.1 (c.new-form.ensures.all ∙ none_at_all (tc_format q) q.spacecraft q.starts q.plain lists size (λ channel above below. none channel below))))
    (subst (λ t. StopsWriting g.W.Write.contents c.args.writer.now c.write_form.new.writer t ((c.write_form.new.writer ≡ c.args.writer.now) × (c.new-form.result ≢ [])) fault) is s)))

pub returns-clause-some : goal.returns-clause-some
returns-clause-some g c =
    let p = c.args.managed.now in
    let lists = c.args.delivered.now.lists in
    let is = tc_form_is p (parameters_of c.managed.inside) lists c.new-form.result c.new-form.ensures.all c.managed.view_is in
    rw (← all_of_channels p lists c.requires.1.size) (on_err_weaker c.write_form.result (λ some none. some (is ∙ none)) c.write_form.ensures.some)
