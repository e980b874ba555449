use Rattle.std.proofs.Common.{◌∙◌, ap}
use Rattle.std.proofs.lemmas.Result.{IfOk-weaker}
use Rattle.clap.specs.Words.{App, app_of, with_subcommand}
use Rattle.sl_link.proofs.program.command_line.with_verb.Goals as goal

pub returns : goal.returns
returns c =
    let verb = ap (λ (a : App). a.top) c.in_ok-with_arguments.ensures.app in
    let local = c.in_ok-with_arguments.ensures.local ∙ c.requires in
    IfOk-weaker c.subcommand.result _ _ (λ with h. h.shape local ∙ ap (with_subcommand (app_of c.args.command)) verb) c.subcommand.ensures
