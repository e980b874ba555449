use Rattle.std.proofs.Common.{sym, ◌∙◌, arith, ap}
use Rattle.sl_tcflow.specs.FormDelivery.{IsFormat}
use Rattle.sl_tcflow.specs.Form.{form_left}
use Rattle.sl_tcflow.specs.ReceptionParameters.{ReceptionParameters}
use Rattle.sl_tcflow.specs.Recording.{tc_lists}
use Rattle.sl_tcflow.proofs.lemmas.Form.Delivery.{normal_form_delivers}
use Rattle.sl_tcflow.proofs.lemmas.Form.Left.{all_left}
use Rattle.sl_tcflow.proofs.form.TcForm.new.Goals as goal

pub returns-clause-all : goal.returns-clause-all
returns-clause-all c =
    let lists = c.args.delivered.now.lists in
    sym (c.next_place-place.ensures.left c.args.shape c.args.spacecraft c.args.plain)
    ∙ ap (form_left c.args.shape c.args.spacecraft c.args.starts c.args.plain lists 0 0) c.start.ensures.value
    ∙ all_left c.args.shape c.args.spacecraft c.args.starts c.args.plain lists

pub returns-clause-delivers : goal.returns-clause-delivers
returns-clause-delivers c =
    let format = c.args.shape in
    let lists = c.args.delivered.now.lists in
    let is : IsFormat format = record {
      least = omega (arith, c.max-max.ensures.value, c.max-max.ensures.least);
      most = omega (arith, c.max-max.ensures.value, c.max-max.ensures.most);
    } in
    λ w.
    let r : ReceptionParameters = record { window = w; starts = c.args.starts; plain = c.args.plain } in
    ap (tc_lists format c.args.spacecraft r) (returns-clause-all c)
    ∙ normal_form_delivers format c.args.spacecraft r lists is c.requires.spacecraft c.start.ensures.octets c.next_place-place.ensures.deliverable c.requires.fits
