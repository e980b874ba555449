use Rattle.std.proofs.Common.{sym, arith}
use Rattle.sl_tcframe.proofs.FramingLemmas.{is_split}
use Rattle.sl_tcframe.proofs.tc_framer.split_frame.Goals as goal

-- `by_index.0` of std's `split_at`: the slice is both parts end to end
pub returns : goal.returns
returns c =
    is_split c.args.shape.now c.args.octets.now c.split_at.result.0.now c.split_at.result.1.now c.in_ok-len.len
    (omega (arith, c.type_inv.octets 4)) (sym c.in_ok-len.ensures.value)
    (omega (arith, c.if-len-from.false, c.from.ensures, c.least.ensures.value)) c.split_at.ensures.by_index.0 c.split_at.ensures.front_len
