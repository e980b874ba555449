use Rattle.std.proofs.Common.{◌∙◌, ap₂, refl}
use Rattle.std.proofs.lemmas.Result.{IfOk-weaker}
use Rattle.clap.specs.Words.{app_of, with_subcommand}
use Rattle.sl_link.proofs.lemmas.Program.CommandLine.{with_named_verb}
use Rattle.sl_link.proofs.program.command_line.sllink.Goals as goal

pub returns : goal.returns
returns c =
    let show = with_named_verb (app_of c.without_verbs-command.result) _ c.bare_verb-verb.ensures.app c.in_ok-command.ensures ∙ ap₂ with_subcommand c.without_verbs-command.ensures refl in
    let check = with_named_verb (app_of c.in_ok-command.command) _ c.bare_verb-verb-2.ensures.app c.in_ok-command-2.ensures ∙ ap₂ with_subcommand show refl in
    let packets = with_named_verb (app_of c.in_ok-command-2.command) _ c.bare_verb-verb-3.ensures.app c.in_ok-command-3.ensures ∙ ap₂ with_subcommand check refl in
    IfOk-weaker c.with_verb-4.result _ _ (λ command h. record { list = _; tm = _; tc = _; same = with_named_verb (app_of c.in_ok-command-3.command) _ c.bare_verb-verb-4.ensures.app h ∙ ap₂ with_subcommand packets refl }) c.with_verb-4.ensures
