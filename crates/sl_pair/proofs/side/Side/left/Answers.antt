use Rattle.std.proofs.Common.{rules}
use Rattle.std.proofs.lemmas.List.Sorted.{IsNonDecreasingBy-from_sort_by_key}
use Rattle.sl_pair.specs.Placed.{Placed}
use Rattle.sl_pair.specs.Store.{waiting_at}
use Rattle.sl_pair.proofs.LeftLemmas.{listed}
use Rattle.sl_pair.proofs.side.Side.left.Goals as goal

pub returns : goal.returns
returns g c = λ packets others side.
    let sorted = c.sort_unstable_by_key.new.self.items in
    let up = IsNonDecreasingBy-from_sort_by_key (λ (one : Placed). one.number) sorted c.sort_unstable_by_key.ensures.sorted (λ a r q k. search rules) in
    listed packets others (waiting_at c.args.self.now.waiting) side.waits c.in_ok-left.left.items sorted c.in_ok-left.ensures
    c.sort_unstable_by_key.ensures.permutation up
