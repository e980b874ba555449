use Rattle.std.proofs.Common.{◌∙◌, ℕ, Option, Result, ap, codes, subst}
use Rattle.clap.specs.Walk.{Text}
use Rattle.clap.specs.Words.{found_of}
use Rattle.sl_engine.specs.Link.Managed.{Parameters}
use Rattle.sl_link.specs.Program.CommandLine.{AreFrom, IsPlain, with_vcs}
use Rattle.sl_engine.specs.declared.link.managed.ManagedFault.{ManagedFault}
use Rattle.sl_link.proofs.lemmas.Program.CommandLine.{text_got}
use Rattle.sl_link.proofs.program.command_line.managed_of_options.Goals as goal

pub returns : goal.returns
returns c =
    let f = found_of c.args.matches.now in
    let plain = c.plain_of-plain.result in
    let starts = c.initial_vrs-starts.result in
    let of_plain = text_got f (codes "plain") c.get_str.result c.get_str.ensures in
    let of_starts = text_got f (codes "vr-of") c.get_str-2.result c.get_str-2.ensures in
    record {
      plain = plain;
      is_plain = subst (λ (o : Option Text). IsPlain o plain) of_plain c.plain_of-plain.ensures;
      starts = starts;
      are_from = subst (λ (p : ℕ × Option Text). AreFrom p.0 p.1 starts) (λ i. (c.number_of_8_bits-vr.ensures i, of_starts i)) c.initial_vrs-starts.ensures;
      managed_is = c.with_vcs.ensures ∙ ap (λ (m : Result Parameters ManagedFault). with_vcs m plain starts) c.managed_in.ensures;
    }
