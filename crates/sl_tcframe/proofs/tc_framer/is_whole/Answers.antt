use Rattle.std.proofs.Common.{◌<◌, ◌≤◌, ◌∙◌, length, arith}
use Rattle.std.specs.List.{slice_index_or}
use Rattle.std.proofs.lemmas.Bool.{leb-true, leb-false}
use Rattle.sl_tcframe.proofs.FramingLemmas.{four_state_it}
use Rattle.sl_tcframe.proofs.tc_framer.is_whole.Goals as goal

pub returns : goal.returns
returns c =
    let small : slice_index_or c.args.octets.now 4 0 < 256 = omega (arith, c.type_inv.octets 4) in
    record {
      whole = λ is.
          let many : c.args.len ≤ length c.args.octets.now = leb-true c.args.len (length c.args.octets.now) is in
          (many, c.requires.stated ∙ four_state_it c.args.octets.now (omega (arith, many, c.requires.header)) small);
      part = λ is. leb-false c.args.len (length c.args.octets.now) is;
    }
