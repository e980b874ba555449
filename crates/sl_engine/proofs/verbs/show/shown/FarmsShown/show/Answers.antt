use Rattle.std.proofs.Common.{◌≡◌, ◌++◌, ◌∙◌, List, ap, codes, length, rules, subst, sym}
use Rattle.sl_tcframe.specs.TcFrame.{TcView, tc_frame}
use Rattle.sl_tcflow.specs.AcceptedUnit.{views_of}
use Rattle.sl_tcflow.specs.Farms.{HaveStepped}
use Rattle.std.specs.List.{concat}
use Rattle.sl_engine.specs.Link.Managed.{Parameters, reception_of, tc_format}
use Rattle.sl_engine.specs.Verbs.Show.Tc.{farm_before, tc_frame_text}
use Rattle.sl_engine.proofs.lemmas.Io.Words.{line_after}
use Rattle.sl_engine.proofs.lemmas.Kind.Delivery.{views_next}
use Rattle.sl_engine.proofs.verbs.show.shown.FarmsShown.show.Goals as goal

pub returns-clause-line : goal.returns-clause-line
returns-clause-line c = λ before start h offset.
    let p = c.args.managed.now in
    let read : c.read-read.result ≡ tc_frame (tc_format p) p.spacecraft c.args.frame.now = search rules in
    line_after start _ (length (concat before)) offset
    (rw read at (c.tc_frame_line.ensures.line (reception_of p) (views_of (tc_format p) p.spacecraft before) h
    ∙ ap (λ (q : Parameters). c.args.lines.now ++ (tc_frame_text q.plain (farm_before p before) c.read-read.result ++ codes "\n")) c.managed.view_is))

pub returns-clause-shown : goal.returns-clause-shown
returns-clause-shown c = λ before h.
    let p = c.args.managed.now in
    let r = reception_of p in
    let seen = views_of (tc_format p) p.spacecraft before in
    let read : c.read-read.result ≡ tc_frame (tc_format p) p.spacecraft c.args.frame.now = search rules in
    subst (λ (views : List TcView). HaveStepped r c.tc_frame_line.new.farms views) (sym (views_next (tc_frame (tc_format p) p.spacecraft) before c.args.frame.now))
    (rw read at (c.tc_frame_line.ensures.farms r seen h))
