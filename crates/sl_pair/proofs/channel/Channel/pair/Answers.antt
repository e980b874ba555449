use Rattle.std.proofs.Common.{◌&&◌, ◌++◌, ◌∷◌, [], subst, sym}
use Rattle.sl_pair.specs.Pairing.{IsChannel, in_order}
use Rattle.sl_pair.proofs.PairingLemmas.{first_came, second_came}
use Rattle.sl_pair.proofs.channel.Channel.pair.Goals as goal

pub returns-in_ok-in_place-in-First : goal.returns-in_ok-in_place-in-First
returns-in_ok-in_place-in-First g c = λ own others had.
    let p = c.args.packet.now in
    let old = c.args.self.now in
    let is = subst (λ s. in_order s (IsChannel old) own others) c.in-First.is had in
    let matched = c.in_ok-in_place-in-First.in_place in
    let came = first_came old own others p is c.pair.new.self c.pair.new.other matched (c.in_ok-in_place-in-First.ensures own others is.first is.second) in
    subst (λ s. in_order s (IsChannel (record { first = c.pair.new.self; second = c.pair.new.other; in_place = old.in_place && matched })) (own ++ p ∷ []) others)
    (sym c.in-First.is) came

pub returns-in_ok-in_place-in-Second : goal.returns-in_ok-in_place-in-Second
returns-in_ok-in_place-in-Second g c = λ own others had.
    let p = c.args.packet.now in
    let old = c.args.self.now in
    let is = subst (λ s. in_order s (IsChannel old) own others) c.in-Second.is had in
    let matched = c.in_ok-in_place-in-Second.in_place in
    let came = second_came old others own p is c.pair-in-Second.new.other c.pair-in-Second.new.self matched (c.in_ok-in_place-in-Second.ensures own others is.second is.first) in
    subst (λ s. in_order s (IsChannel (record { first = c.pair-in-Second.new.other; second = c.pair-in-Second.new.self; in_place = old.in_place && matched })) (own ++ p ∷ []) others)
    (sym c.in-Second.is) came
