use Rattle.std.proofs.Common.{◌≡◌, ◌≢◌, ◌∙◌, [], subst, take}
use Rattle.std.proofs.lemmas.Result.{MatchResult-weaker, on_err_weaker, on_ok_weaker}
use Rattle.sl_tmflow.proofs.lemmas.Form.Left.{none_at_all}
use Rattle.sl_engine.specs.Io.Streams.{StopsWriting, WritesText}
use Rattle.sl_engine.specs.Link.Managed.{tm_format}
use Rattle.sl_engine.specs.Link.ManagedModel.{parameters_of}
use Rattle.sl_engine.proofs.lemmas.Io.Streams.{memory_weaker}
use Rattle.sl_engine.proofs.lemmas.Normalise.Form.{tm_form_delivers, tm_form_is}
use Rattle.sl_engine.proofs.normalise.ExtractorFormed.write.Goals as goal

pub returns-clause-written : goal.returns-clause-written
returns-clause-written g c =
    let is = c.new-form.ensures.left ∙ tm_form_is c.args.managed.now (parameters_of c.managed.inside) (take 8 c.args.delivered.now.lists) c.managed.view_is in
    on_ok_weaker c.write_form.result (subst (WritesText g.W.Write.contents c.args.writer.now c.write_form.new.writer) is) c.write_form.ensures.written

pub returns-clause-delivers : goal.returns-clause-delivers
returns-clause-delivers g c = tm_form_delivers c.args.managed.now (parameters_of c.managed.inside) (take 8 c.args.delivered.now.lists) c.new-form.ensures.delivers c.managed.view_is

pub returns-clause-fault : goal.returns-clause-fault
returns-clause-fault g c =
    let q = parameters_of c.managed.inside in
    let is = c.new-form.ensures.left ∙ tm_form_is c.args.managed.now q (take 8 c.args.delivered.now.lists) c.managed.view_is in
    MatchResult-weaker c.write_form.result c.write_form.ensures.fault (λ _ u. u) (λ fault s.
    memory_weaker (λ w. (w.0, λ none. w.1 (c.new-form.ensures.left ∙ none_at_all (tm_format q) q.spacecraft c.args.delivered.now.lists none)))
    (subst (λ t. StopsWriting g.W.Write.contents c.args.writer.now c.write_form.new.writer t ((c.write_form.new.writer ≡ c.args.writer.now) × (c.new-form.result.left ≢ [])) fault) is s))

pub returns-clause-some : goal.returns-clause-some
returns-clause-some g c =
    let is = c.new-form.ensures.left ∙ tm_form_is c.args.managed.now (parameters_of c.managed.inside) (take 8 c.args.delivered.now.lists) c.managed.view_is in
    on_err_weaker c.write_form.result (λ some none. some (is ∙ none)) c.write_form.ensures.some
