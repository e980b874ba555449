use Rattle.std.proofs.Common.{rules, ◌≡◌, ◌∙◌, ap, false}
use Rattle.std.proofs.lemmas.Result.{IfOk-weaker}
use Rattle.clap.specs.Words.{app_of, rule_of, with_rule}
use Rattle.clap.specs.declared.builder.command.Command.TheViews.{out-Command as fields_of}
use Rattle.sl_link.specs.Program.CommandLine.{kind_rule, with_link_options}
use Rattle.sl_link.proofs.lemmas.Program.CommandLine.{stays_local}
use Rattle.sl_link.proofs.program.command_line.with_arguments.Goals as goal

pub returns : goal.returns
returns c =
    let rule : rule_of c.required-kind.result ≡ kind_rule c.args.kinds = search rules in
    let here : c.required-kind.result.global ≡ false = search rules in
    record {
      app = IfOk-weaker c.with_options.result _ _ (λ command h. h ∙ ap with_link_options (c.in_ok-arg.ensures.shape here ∙ ap (with_rule (app_of c.args.verb)) rule)) c.with_options.ensures.app;
      local = IfOk-weaker c.with_options.result _ _ (λ command h. h ∙ c.in_ok-arg.ensures.globals ∙ stays_local (fields_of c.args.verb).has_globals _ here) c.with_options.ensures.local;
    }
