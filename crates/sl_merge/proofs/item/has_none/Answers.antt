use Rattle.std.proofs.Common.{◌≡◌, ◌<◌, arith}
use Rattle.sl_merge.proofs.TakenLemmas.{none_short}
use Rattle.sl_merge.proofs.item.has_none.Goals as goal

pub returns-clause-none : goal.returns-clause-none
returns-clause-none c =
    let positive : 0 < c.args.shape.now.len = omega arith in
    let wide : c.from.result ≡ c.args.shape.now.len = omega arith in
    rw wide (none_short c.args.shape.now.len c.args.octets.now positive)
