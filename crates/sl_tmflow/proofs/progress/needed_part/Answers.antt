use Rattle.std.proofs.Common.{◌≡◌, ◌∙◌, sym, arith, length, take}
use Rattle.std.proofs.lemmas.List.{length-take-le}
use Rattle.sl_tmflow.proofs.lemmas.Incomplete.Enough.{some_is_enough, wanted_complete, wanted_fits}
use Rattle.sl_tmflow.proofs.progress.needed_part.Goals as goal

pub returns-in-Octets : goal.returns-in-Octets
returns-in-Octets c =
    let held = c.args.held.now in
    let field = c.args.field.now in
    let n = c.in-Octets.needed in
    let law = c.needs_tell_packets.ensures.octets in
    let wants = sym c.need.ensures ∙ c.in-Octets.is in
    let long : length (take n field) ≡ n = length-take-le n field c.if-needed-field.true in
    some_is_enough held field n (wanted_complete law held (take n field) n wants long) (omega (arith, wanted_fits law held n wants, long))
