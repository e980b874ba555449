-- A recording is divided into the packets that both have and those that only it has.
use Rattle.std.proofs.Common.{◌≡◌, ◌+◌, ◌++◌, length, sym, ◌∙◌, arith, length-append}
use Rattle.std.proofs.lemmas.List.Sorted.{length_permutation}
use Rattle.sl_pair.specs.OnlyIn.{BothHaveSame, EachIsDivided, NumbersBalance, OthersOrderIsNothing, Packets, in_both, only_in}
use Rattle.sl_pair.proofs.CopiesLemmas.{copies-append}
use Rattle.sl_pair.proofs.OnlyInLemmas.{copies-in_both, copies_are_subtracted, only_in-same_copies}
use Rattle.sl_pair.proofs.SameCopies.{copies-permutation, permutation_from_copies}

pub others_order_is_nothing : OthersOrderIsNothing
others_order_is_nothing packets others reordered moved =
    only_in-same_copies packets others reordered (copies-permutation others reordered moved)

pub each_is_divided : EachIsDivided
each_is_divided packets others =
    let both = in_both packets others in
    let only = only_in packets others in
    permutation_from_copies packets (both ++ only) (λ x. sym (copies-append x both only ∙ copies-in_both x packets others))

pub both_have_same : BothHaveSame
both_have_same packets others =
    permutation_from_copies (in_both packets others) (in_both others packets)
    (λ x. omega (
      arith,
      copies-in_both x packets others,
      copies-in_both x others packets,
      copies_are_subtracted x packets others,
      copies_are_subtracted x others packets,
    ))

-- a recording has as many packets as both have and only it has
length-divided : (packets others : Packets) → length (in_both packets others) + length (only_in packets others) ≡ length packets
length-divided packets others =
    let both = in_both packets others in
    let only = only_in packets others in
    sym (length-append both only) ∙ length_permutation packets (both ++ only) (each_is_divided packets others)

pub numbers_balance : NumbersBalance
numbers_balance packets others =
    omega (
      arith,
      length-divided packets others,
      length-divided others packets,
      length_permutation (in_both packets others) (in_both others packets) (both_have_same packets others),
    )
