use Rattle.std.proofs.Common.{rules, ◌≡◌}
use Rattle.std.proofs.lemmas.Fn.{always_returns_same}
use Rattle.std.proofs.lemmas.List.Sorted.{IsNonDecreasingBy-from_sort_by_key}
use Rattle.sl_packet.specs.Packet.{apid_of}
use Rattle.sl_pair.specs.Placed.{Placed}
use Rattle.sl_pair.proofs.PlacedLemmas.{numbers_rise}
use Rattle.sl_pair.proofs.RunsLemmas.{sorted_by_apid}
use Rattle.sl_pair.proofs.pairing.Pairing.left_by_apid.Goals as goal

pub returns : goal.returns
returns g c = λ own others stands.
    let sorted = c.sort_by_key.new.self.items in
    let apid = λ (one : Placed). apid_of one.packet in
    let left = c.in_ok-left.ensures own others stands in
    let up = IsNonDecreasingBy-from_sort_by_key apid sorted c.in_ok-sort_by_key.ensures.sorted (λ a r q k. search rules) in
    sorted_by_apid _ sorted (numbers_rise (own c.args.channel) (others c.args.channel)) (rw left at c.sort_by_key.ensures.permutation) up (rw left at (c.sort_by_key.ensures.stable apid (always_returns_same _ (λ a r. r ≡ apid a.0.now) _ (λ a r q k. search rules))))
