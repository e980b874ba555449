use Rattle.std.proofs.Common.{◌∙◌, [], take, get_or, ap, arith, ℕ}
use Rattle.sl_engine.specs.declared.verbs.show.segment_texts.TheConstants.{TEXTS}
use Rattle.sl_engine.proofs.lemmas.Verbs.Show.Segments.{header_at, header_short}
use Rattle.sl_engine.proofs.verbs.show.segment_texts.header_text.Goals as goal

pub returns-clause-text : goal.returns-clause-text
returns-clause-text c =
    let h = c.args.header.now in
    let octet = c.header_octet.ensures in
    ap (λ (n : ℕ). take n (get_or TEXTS c.from.result [])) c.from-2.ensures
    ∙ header_at c.from.result h.flags h.map (c.from.ensures ∙ octet.octet) octet.flags octet.map

pub returns-clause-short : goal.returns-clause-short
returns-clause-short c =
    let below = header_short c.from.result (omega arith) in
    omega (arith, below, c.from-2.ensures)
