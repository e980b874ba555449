use Rattle.std.proofs.Common.{rules, arith}
use Rattle.std.proofs.lemmas.Slice.{overwrites}
use Rattle.sl_packet.proofs.OutlineLemmas.{length_put, filled_six, whole_six}
use Rattle.sl_packet.proofs.outline.filled.Goals as goal

pub returns-then-known-lt6 : goal.returns-then-known-lt6
returns-then-known-lt6 c =
    filled_six c.args.header.now c.args.more.now _ c.args.known c.min-many.result (length_put c.args.header.now c.copy_from_slice.new.self c.args.known _ (search rules) (omega arith) (search rules)) (omega arith) (omega arith) (omega arith) (omega arith) (λ h. omega arith) (λ h. omega arith) (search (rules, overwrites))

pub returns-else-known-lt6 : goal.returns-else-known-lt6
returns-else-known-lt6 c = whole_six c.args.header.now c.args.more.now c.args.known (search rules) (omega arith)
