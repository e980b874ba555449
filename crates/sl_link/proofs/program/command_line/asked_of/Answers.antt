use Rattle.std.proofs.Common.{◌∙◌, ap, codes}
use Rattle.clap.specs.Words.{found_of}
use Rattle.sl_link.specs.Program.CommandLine.{kind_named}
use Rattle.sl_link.proofs.lemmas.Program.CommandLine.{text_got}
use Rattle.sl_link.proofs.program.command_line.asked_of.Goals as goal

pub returns : goal.returns
returns c = record {
  verb_is = c.verb_named.ensures;
  kind_is = c.kind_named.ensures ∙ ap kind_named (text_got (found_of c.args.matches.now) (codes "kind") c.get_str.result c.get_str.ensures);
  given = c.managed_of_options.ensures;
}
