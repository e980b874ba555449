use Rattle.std.proofs.Common.{arith, vec_len}
use Rattle.std.proofs.lemmas.Option.{slice_get_read}
use Rattle.std.proofs.lemmas.Result.{on_ok_weaker}
use Rattle.sl_pair.proofs.PairingLemmas.{kept_in_order, one_paired}
use Rattle.sl_pair.proofs.pairing.pair_on.Goals as goal

pub returns : goal.returns
returns g c =
    on_ok_weaker c.pair.result (λ paired own others had.
    let s = c.args.station in
    let cs = c.grow_to.new.channels in
    let grown = kept_in_order s c.args.channels.now.items cs.items c.in_ok-grow_to.ensures.kept own others had in
    one_paired s cs.items c.args.channel c.index_mut.result.now c.pair.new.self c.args.packet.now
    (slice_get_read cs.items (vec_len cs) c.args.channel c.index_mut.result.now (omega arith) c.in_ok-grow_to.ensures.reached c.index_mut.ensures.value)
    paired own others grown) c.pair.ensures
