use Rattle.std.proofs.Common.{◌+◌, ◌*◌, ◌/◌, length}
use Rattle.sl_fields.proofs.FecfFolds.{Holds, up_to}
use Rattle.sl_fields.proofs.folds.four_of_all.Given as goal

abbrev pub invariant-loop-four : goal.invariant-loop-four
invariant-loop-four l = Holds (up_to l.fn.octets (l.four-index * 4)) l.oldest l.older l.newer l.newest

abbrev pub invariant-loop-slice : goal.invariant-loop-slice
invariant-loop-slice l = Holds (up_to l.fn.octets (length l.fn.octets / 16 / 4 * 4 + l.slice-index)) l.oldest l.older l.newer l.newest
