use Rattle.std.proofs.Common.{◌∙◌, refl, arith}
use Rattle.clap.specs.Words.{found_of}
use Rattle.sl_link.proofs.lemmas.Program.CommandLine.{number_got}
use Rattle.sl_link.proofs.program.command_line.number_of_64_bits.Goals as goal

pub returns : goal.returns
returns c =
    c.unwrap_or.ensures ∙ number_got 64 18446744073709551615 refl (omega arith) (found_of c.args.matches.now) c.args.name.now c.get_one.result c.get_one.ensures.none c.get_one.ensures.value
