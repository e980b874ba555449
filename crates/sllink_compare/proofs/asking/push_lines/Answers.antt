use Rattle.std.proofs.Common.{◌∙◌, ◌++◌, ap, append_assoc}
use Rattle.std.specs.Prelude.{string_bytes}
use Rattle.sllink_compare.specs.Asking.{asked_text}
use Rattle.sllink_compare.proofs.WritingLemmas.{ok_then}
use Rattle.sllink_compare.proofs.asking.push_lines.Goals as goal

pub returns : goal.returns
returns c =
    let words = asked_text c.args.allowed.now c.args.first.now c.args.second.now in
    ok_then c.push_asked.result c.push_asked.ensures (λ appended. appended ∙ ap (λ l. l ++ words) c.in_ok-push_str.ensures.bytes ∙ append_assoc (string_bytes c.args.line.now) _ words)
