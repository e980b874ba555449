use Rattle.std.proofs.Common.{◌∙◌, [], get_or, ap, ℕ}
use Rattle.sl_engine.specs.declared.verbs.packets.lines.header_bits.TheConstants.{TEXTS}
use Rattle.sl_engine.proofs.lemmas.Verbs.Packets.Bits.{bits_at}
use Rattle.sl_engine.proofs.verbs.packets.lines.header_bits.bits_text.Goals as goal

pub returns : goal.returns
returns c =
    let h = c.args.header.now in
    ap (λ (n : ℕ). get_or TEXTS n []) (c.from.ensures ∙ c.bits_number.ensures.number)
    ∙ bits_at h.kind h.secondary h.flags c.bits_number.ensures.kind c.bits_number.ensures.flags
