-- Recordings with the same packets: in some order, and in the same order.
use Rattle.std.proofs.Common.{◌≡◌, ℕ, ◌<◌, ◌≤◌, List, [], length, get_or, sym, ◌∙◌, ap, subst, arith}
use Rattle.std.proofs.lemmas.List.{ext_get_or}
use Rattle.std.proofs.lemmas.List.Sorted.{length_permutation}
use Rattle.sl_pair.specs.OnlyIn.{NoneMeansReordered, Packets, copies, only_in}
use Rattle.sl_pair.specs.Placed.{AreCounterparts, AreInPlace, SameMeansInPlace}
use Rattle.sl_pair.proofs.CounterpartLemmas.{IsCopy, copies-all, copies_before, copy_exists, copy_there, counterpart_copy, counterparts_from_copies, one_place, packet_at}
use Rattle.sl_pair.proofs.OnlyInLemmas.{copies_are_subtracted}
use Rattle.sl_pair.proofs.SameCopies.{copies-permutation, none_from_copies, permutation_from_copies}

-- ---- no packet of its own

-- where the others have no fewer copies of any packet, a recording has none of its own
pub none_of_its_own : (packets others : Packets) → ((x : List ℕ) → copies x packets ≤ copies x others) → only_in packets others ≡ []
none_of_its_own packets others enough =
    none_from_copies (only_in packets others) (λ x. omega (arith, enough x, copies_are_subtracted x packets others))

-- and only there
pub enough_copies : (packets others : Packets) → only_in packets others ≡ [] → (x : List ℕ) → copies x packets ≤ copies x others
enough_copies packets others none x = omega (arith, ap (copies x) none, copies_are_subtracted x packets others)

pub none_means_reordered : NoneMeansReordered
none_means_reordered packets others = (
  (λ none. permutation_from_copies packets others
      (λ x. omega (arith, enough_copies packets others none.0 x, enough_copies others packets none.1 x))),
  (λ moved.
      (let same = copies-permutation packets others moved in
      (none_of_its_own packets others (λ x. omega (arith, same x)), none_of_its_own others packets (λ x. omega (arith, same x))))),
)

-- ---- the same order

-- where the others have enough copies, each packet has a counterpart
has_counterpart : (packets others : Packets) → ((x : List ℕ) → copies x packets ≤ copies x others)
    → (n : ℕ) → n < length packets → (m : ℕ) × AreCounterparts packets others n m
has_counterpart packets others enough n inside =
    let x = packet_at packets n in
    let k = copies_before packets n in
    let here : IsCopy x packets k n = copy_there packets n inside in
    let (m, there) = copy_exists x others k (omega (arith, copies-all x packets k n here, enough x)) in
    (m, counterparts_from_copies x packets others k n m here there)

-- counterparts in place are the same packet at the same place
same_there : (packets others : Packets) → AreInPlace packets others → (n m : ℕ) → AreCounterparts packets others n m
    → get_or packets n [] ≡ get_or others n []
same_there packets others all n m pair = pair.same ∙ ap (λ i. get_or others i []) (sym (all n m pair))

in_place_to_itself : (packets : Packets) → AreInPlace packets packets
in_place_to_itself packets n m pair =
    let x = packet_at packets n in
    let k = copies_before packets n in
    let here : IsCopy x packets k n = copy_there packets n pair.inside in
    one_place x packets k n m here (counterpart_copy x packets packets k n m here pair)

same_from_places : (packets others : Packets) → only_in packets others ≡ [] → only_in others packets ≡ [] → AreInPlace packets others
    → packets ≡ others
same_from_places packets others none no_other all =
    let moved = (none_means_reordered packets others).0 (none, no_other) in
    let enough = enough_copies packets others none in
    ext_get_or [] packets others (sym (length_permutation packets others moved)) (λ n inside.
    (let (m, pair) = has_counterpart packets others enough n inside in
    same_there packets others all n m pair))

pub same_means_in_place : SameMeansInPlace
same_means_in_place packets others = (
  (λ it. same_from_places packets others it.0 it.1 it.2),
  (λ same. subst (λ l. (only_in packets l ≡ []) × (only_in l packets ≡ []) × AreInPlace packets l) same
      (let none = none_of_its_own packets packets (λ x. omega arith) in
      (none, none, in_place_to_itself packets))),
)
