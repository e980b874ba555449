use Rattle.std.proofs.Common.{◌≡◌, drop}
use Rattle.std.specs.Prelude.{◌||◌, is_some, not}
use Rattle.std.specs.List.{list_all}
use Rattle.sl_merge.specs.Fates.{stands}
use Rattle.sl_merge.specs.declared.item.Seen.{Seen}
use Rattle.sl_merge.proofs.merge.are_read.Given as goal

abbrev pub invariant-loop-one : goal.invariant-loop-one
invariant-loop-one l =
    list_all (λ (s : Seen). not (stands s.item.fate) || is_some s.vc) (drop l.one-index l.seen)
    ≡ list_all (λ (s : Seen). not (stands s.item.fate) || is_some s.vc) l.fn.seen
