use Rattle.std.proofs.Common.{slice_index_or, ap, arith}
use Rattle.sl_fields.proofs.DecimalLemmas.{IsUnpadded, reads_decimal, reads_it, unpadded}
use Rattle.sl_fields.proofs.decimal.read_decimal.Goals.{else-text-gt1-via-then-text-gt1+else-as_bytes-lt49, else-text-gt1-via-else-text-gt1}
use Rattle.sl_fields.proofs.decimal.read_decimal.Goals as goal

pub returns-then-as_bytes-lt49-clause-every : goal.returns-then-as_bytes-lt49-clause-every
returns-then-as_bytes-lt49-clause-every c n small is =
    absurd (omega (arith, unpadded c.args.text.now n small is c.if-text-gt1.true, c.if-as_bytes-lt49.true, ap (λ l. slice_index_or l 0 0) c.as_bytes.ensures.value))

pub returns-clause-number : goal.returns-clause-number
returns-clause-number c =
    let lead : IsUnpadded c.args.text.now = elim c.else-text-gt1.branch [
      | else-text-gt1-via-then-text-gt1+else-as_bytes-lt49 w ↦ λ many. omega (arith, w.if-as_bytes-lt49.false, ap (λ l. slice_index_or l 0 0) w.as_bytes.ensures.value)
      | else-text-gt1-via-else-text-gt1 w ↦ λ many. absurd (omega (arith, many, w.if-text-gt1.false))
    ] in
    reads_decimal c.parse.result c.ok.result c.args.text.now c.parse.ensures.value.0 c.ok.ensures.value lead

pub returns-clause-every : goal.returns-clause-every
returns-clause-every c n small is = reads_it c.parse.result c.ok.result c.args.text.now n c.parse.ensures.value.0 c.ok.ensures.value small is
