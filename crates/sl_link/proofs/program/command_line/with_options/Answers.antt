use Rattle.std.proofs.Common.{◌≡◌, ◌∙◌, ap, map}
use Rattle.std.specs.Prelude.{fold, true}
use Rattle.std.specs.List.{list_all}
use Rattle.std.proofs.lemmas.Result.{IfOk-weaker}
use Rattle.clap.specs.Words.{app_of, rule_of, with_rule}
use Rattle.sl_link.specs.Program.CommandLine.{link_options}
use Rattle.sl_link.proofs.lemmas.Program.CommandLine.{adds_rules}
use Rattle.sl_link.proofs.program.command_line.with_options.Goals as goal

pub returns : goal.returns
returns c =
    let rules : map rule_of c.in_ok-link_options.field-0.items ≡ link_options = c.in_ok-link_options.ensures in
    let simple : list_all (λ r. r.is_simple) (map rule_of c.in_ok-link_options.field-0.items) ≡ true = ap (list_all (λ r. r.is_simple)) rules in
    record {
      app = IfOk-weaker c.args-2.result _ _ (λ command h. (adds_rules c.args.verb command _ simple h).0 ∙ ap (fold with_rule (app_of c.args.verb)) rules) c.args-2.ensures;
      local = IfOk-weaker c.args-2.result _ _ (λ command h. (adds_rules c.args.verb command _ simple h).1) c.args-2.ensures;
    }
