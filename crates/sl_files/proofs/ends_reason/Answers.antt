use Rattle.std.proofs.Common.{eqb, sym, ap, ◌∙◌, codes}
use Rattle.std.specs.Prelude.{◌||◌}
use Rattle.std.specs.List.{starts_with}
use Rattle.std.proofs.lemmas.Str.Pattern.{starts_text}
use Rattle.sl_files.proofs.ends_reason.Goals as goal

pub returns-else-starts_with : goal.returns-else-starts_with
returns-else-starts_with c =
    let none = sym (starts_text _ (codes "Usage:") c.args.line.now c.starts_with.ensures.cases) ∙ c.if-starts_with.false in
    starts_text _ (codes "For more information") c.args.line.now c.starts_with-else-starts_with.ensures.cases
    ∙ ap (λ b. b || starts_with eqb c.args.line.now (codes "For more information")) (sym none)
