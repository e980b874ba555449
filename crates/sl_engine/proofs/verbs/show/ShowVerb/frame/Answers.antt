use Rattle.std.proofs.Common.{◌∙◌, refl}
use Rattle.sl_engine.proofs.lemmas.Io.Streams.{adds_both, adds_lines, stops_before}
use Rattle.sl_engine.proofs.lemmas.Kind.Delivery.{so_far_more}
use Rattle.sl_engine.proofs.lemmas.Link.Answers.{passed_up}
use Rattle.sl_engine.proofs.verbs.show.ShowVerb.frame.Goals as goal

pub returns-in_err-make_room-clause-fault : goal.returns-in_err-make_room-clause-fault
returns-in_err-make_room-clause-fault g c =
    passed_up _ _ c.from_residual.ensures.1 (λ before h. stops_before _ _ c.in_err-make_room.ensures.fault)

pub returns-clause-lines : goal.returns-clause-lines
returns-clause-lines g c = λ before h.
    adds_both c.in_ok-make_room.ensures.kept (adds_lines _ _ _ _ refl (c.show-is_skipped.ensures.line before _ h.shown (rw h.counts at (rw c.octets.ensures at c.push_offset.ensures.text))))

pub returns-clause-has_listed : goal.returns-clause-has_listed
returns-clause-has_listed g c = λ before h. record {
  shown = c.show-is_skipped.ensures.shown before h.shown;
  counts = c.add.ensures ∙ so_far_more (g.S.Shown.is_skipped c.args.managed.now) before c.args.frame.now _ h.counts c.show-is_skipped.ensures.skipped refl refl;
}
