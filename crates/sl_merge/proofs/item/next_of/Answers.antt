use Rattle.std.proofs.Common.{rules, ◌≡◌, ◌<◌, arith, length}
use Rattle.sl_tmframe.proofs.DelimitedLemmas.{frames_of-short}
use Rattle.sl_merge.proofs.TakenLemmas.{frames_of-split}
use Rattle.sl_merge.proofs.item.next_of.Goals as goal

pub returns-in_err-frame-clause-frame : goal.returns-in_err-frame-clause-frame
returns-in_err-frame-clause-frame c =
    let short : length c.args.octets.now.now < c.args.shape.now.len = omega (arith, c.in_err-frame.ensures.cases) in
    let none = frames_of-short c.args.shape.now.len c.args.octets.now.now short in
    search rules

pub returns-clause-frame : goal.returns-clause-frame
returns-clause-frame c =
    let positive : 0 < c.args.shape.now.len = omega arith in
    let wide : c.from.result ≡ c.args.shape.now.len = omega arith in
    frames_of-split c.args.shape.now.len c.args.octets.now.now c.in_ok-frame.frame.now c.in_ok-frame.later.now positive
    (rw wide at c.in_ok-frame.ensures.cases)
