use Rattle.std.proofs.Common.{◌∙◌, [], get_or, ap, ℕ}
use Rattle.sl_engine.specs.declared.verbs.show.clcw_flags.TheConstants.{TEXTS}
use Rattle.sl_engine.proofs.lemmas.Verbs.Show.Flags.{flags_at}
use Rattle.sl_engine.proofs.verbs.show.clcw_flags.flags_text.Goals as goal

pub returns : goal.returns
returns c =
    let w = c.args.clcw.now in
    ap (λ (n : ℕ). get_or TEXTS n []) (c.from.ensures ∙ c.flags_number.ensures.number)
    ∙ flags_at w.lockout w.wait w.retransmit w.farm_b c.flags_number.ensures.counter
