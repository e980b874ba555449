-- Recordings that lost packets of another one.
use Rattle.std.proofs.Common.{◌≡◌, ℕ, ◌+◌, List, ◌++◌, length, ◌∙◌, ap, arith}
use Rattle.sl_pair.specs.OnlyIn.{LacksWhatWasLost, Packets, SublistLacksOnly, copies, only_in}
use Rattle.std.specs.List.Sorted.{IsPermutation}
use Rattle.sl_pair.proofs.CopiesLemmas.{copies-append}
use Rattle.sl_pair.proofs.DividedLemmas.{numbers_balance}
use Rattle.sl_pair.proofs.OnlyInLemmas.{copies-sublist, copies_are_subtracted}
use Rattle.sl_pair.proofs.ReorderedLemmas.{none_of_its_own}
use Rattle.sl_pair.proofs.SameCopies.{copies-permutation, permutation_from_copies}

pub sublist_lacks_only : SublistLacksOnly
sublist_lacks_only packets others within =
    let none = none_of_its_own others packets (λ x. copies-sublist x others packets within) in
    (none, omega (arith, ap length none, numbers_balance packets others))

-- the copies of a recording are those that were kept and those that were lost
copies-divided : (packets kept lost : Packets) → IsPermutation packets (kept ++ lost)
    → (x : List ℕ) → copies x packets ≡ copies x kept + copies x lost
copies-divided packets kept lost divided x = copies-permutation packets (kept ++ lost) divided x ∙ copies-append x kept lost

pub lacks_what_was_lost : LacksWhatWasLost
lacks_what_was_lost packets kept lost divided =
    let sum = copies-divided packets kept lost divided in (
      permutation_from_copies (only_in packets kept) lost (λ x. omega (arith, sum x, copies_are_subtracted x packets kept)),
      none_of_its_own kept packets (λ x. omega (arith, sum x)),
    )
