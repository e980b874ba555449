use Rattle.std.proofs.Common.{◌≡◌, ◌<◌, ◌≤◌, ◌∙◌, None, Some, ap, length, refl, subst, sym}
use borrow.Author.Tests.{false-ltb, true-ltb}
use Rattle.std.specs.List.{slice_get}
use Rattle.std.proofs.lemmas.Option.{slice_get_past, slice_get_read}
use Rattle.std.proofs.lemmas.Result.{IfOk-weaker}
use Rattle.sl_pair.specs.Pairing.{IsChannelAt, in_order}
use Rattle.sl_pair.specs.Placed.{left_in}
use Rattle.sl_pair.proofs.PairingLemmas.{at_in_order, none_in_order}
use Rattle.sl_pair.proofs.pairing.Pairing.left.Goals as goal

pub returns-in-Some : goal.returns-in-Some
returns-in-Some g c =
    IfOk-weaker c.left.result _ _ (λ left are own others had.
    let cs = c.args.self.now.channels.items in
    let channel = c.args.channel in
    let there = c.in-Some.ensures.lookup in
    let inside : c.from.result < length c.deref.result.now = true-ltb _ _ there.0 in
    let found : slice_get cs channel ≡ Some c.in-Some.pair.now =
    ap (λ l. slice_get l channel) (sym c.deref.ensures.value)
    ∙ ap (slice_get c.deref.result.now) (sym c.from.ensures)
    ∙ slice_get_read c.deref.result.now (length c.deref.result.now) c.from.result c.in-Some.pair.now refl inside there.1 in
    are (own channel) (others channel)
    (subst (λ o. in_order c.args.station (IsChannelAt o) (own channel) (others channel)) found (at_in_order c.args.station cs own others had channel))) c.left.ensures

pub returns-in-None : goal.returns-in-None
returns-in-None g c = λ own others had.
    let cs = c.args.self.now.channels.items in
    let channel = c.args.channel in
    let past : length c.deref.result.now ≤ c.from.result = false-ltb _ _ c.in-None.ensures.lookup.0 in
    let nothing : slice_get cs channel ≡ None =
    ap (λ l. slice_get l channel) (sym c.deref.ensures.value)
    ∙ ap (slice_get c.deref.result.now) (sym c.from.ensures)
    ∙ slice_get_past c.deref.result.now c.from.result past in
    let none = none_in_order c.args.station (own channel) (others channel) (subst (λ o. in_order c.args.station (IsChannelAt o) (own channel) (others channel)) nothing (at_in_order c.args.station cs own others had channel)) in
    c.new.ensures.items ∙ sym (ap (λ l. left_in l (others channel)) none)
