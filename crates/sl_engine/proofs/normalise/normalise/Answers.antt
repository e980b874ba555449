use Rattle.std.proofs.Common.{◌∙◌, ap, inr}
use Rattle.sl_engine.proofs.lemmas.Kind.Delivery.{all_stored, some_stored}
use Rattle.sl_engine.proofs.lemmas.Link.Answers.{passed_up}
use Rattle.sl_engine.proofs.lemmas.Normalise.Whole.{stops_at_form, stops_at_reading, translates, refused_at_end}
use Rattle.sl_engine.proofs.normalise.normalise.Goals as goal

pub returns-in_err-delivered-clause-fault : goal.returns-in_err-delivered-clause-fault
returns-in_err-delivered-clause-fault g c = passed_up _ _ c.from_residual.ensures.1 (stops_at_reading c.in_err-delivered.ensures.stopped)

pub returns-in_err-write-clause-fault : goal.returns-in_err-write-clause-fault
returns-in_err-write-clause-fault g c =
    let d = c.in_ok-delivered.ensures.all in
    passed_up _ _ c.from_residual-in_err-write.ensures.1 (stops_at_form d.all (ap (g.D.Formed.form_of c.args.managed.now) (all_stored _ d.adds _ _ d.stored)) c.in_err-write.ensures.fault)

pub returns-in_err-write-clause-some : goal.returns-in_err-write-clause-some
returns-in_err-write-clause-some g c =
    let d = c.in_ok-delivered.ensures.all in
    let is = ap (g.D.Formed.form_of c.args.managed.now) (all_stored _ d.adds _ _ d.stored) in
    passed_up _ _ c.from_residual-in_err-write.ensures.1 (λ _. record { octets = d.octets; read = d.all.read; some = λ none. c.in_err-write.ensures.some (is ∙ none) })

pub returns-in_err-write-clause-memory : goal.returns-in_err-write-clause-memory
returns-in_err-write-clause-memory g c =
    let d = c.in_ok-delivered.ensures.all in
    passed_up _ _ c.from_residual-in_err-write.ensures.1 (λ e. refused_at_end d.octets d.all.read (inr (some_stored _ d.adds _ _ d.stored (c.in_err-write.ensures.fault.memory e).1)))

pub returns-clause-normal_form : goal.returns-clause-normal_form
returns-clause-normal_form g c =
    let d = c.in_ok-delivered.ensures.all in
    translates d.all (ap (g.D.Formed.form_of c.args.managed.now) (all_stored _ d.adds _ _ d.stored)) c.in_ok-write.ensures.written

pub returns-clause-totals : goal.returns-clause-totals
returns-clause-totals g c =
    let d = c.in_ok-delivered.ensures.all in
    record { translated = translates d.all (ap (g.D.Formed.form_of c.args.managed.now) (all_stored _ d.adds _ _ d.stored)) c.in_ok-write.ensures.written; totals_are = d.counts }

pub returns-clause-packets : goal.returns-clause-packets
returns-clause-packets g c =
    let d = c.in_ok-delivered.ensures.all in
    record {
      recording = d.octets;
      read = d.all.read;
      form = _;
      written = c.in_ok-write.ensures.written.writes;
      same = c.write.ensures.delivers ∙ all_stored _ d.adds _ _ d.stored;
    }
