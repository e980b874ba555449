use Rattle.std.proofs.Common.{cond, codes, sym, ap, ◌∙◌}
use Rattle.std.specs.Prelude.{chars, flat_map}
use Rattle.std.proofs.lemmas.Iterator.{YieldsList-from_chars}
use Rattle.std.proofs.lemmas.Iterator.Consumers.{YieldsList-end}
use Rattle.std.proofs.lemmas.List.{map-id}
use Rattle.sl_files.specs.Shown.{shown_letter}
use Rattle.sl_files.proofs.shown.Goals as goal

pub returns : goal.returns
returns c =
    let t = YieldsList-end (YieldsList-from_chars c.args.name.now c.utf8.name cc) c.loop-letter.yielded _ c.loop-letter.yielded_by _ _
    c.in-None.is c.next.ensures.steps in
    c.loop-letter.invariant ∙ ap (flat_map shown_letter) (sym (map-id c.loop-letter.yielded) ∙ t.0)
    ∙ ap (λ b. cond b (codes "''") (flat_map shown_letter (chars c.args.name.now))) (sym (sym c.is_empty.ensures ∙ c.if-is_empty.false))
