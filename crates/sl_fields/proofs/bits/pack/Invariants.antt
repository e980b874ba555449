use Rattle.std.proofs.Common.{drop}
use Rattle.sl_fields.proofs.Packing.{IsPacking}
use Rattle.sl_fields.proofs.bits.pack.Given as goal

abbrev pub invariant-loop-width : goal.invariant-loop-width
invariant-loop-width l = IsPacking l.number (drop l.width-index l.fields) l.fields
