-- Packets that have the numbers of their counterparts.
use Rattle.std.proofs.Common.{◌≡◌, ◌↔◌, ◌≤◌, ℕ, List, [], ◌∷◌, ◌++◌, length, inl, inr, refl, sym, ◌∙◌}
use Rattle.sl_pair.specs.OnlyIn.{Packets, copies}
use Rattle.sl_pair.specs.Placed.{AreInPlace, Placed}
use Rattle.sl_pair.specs.Waiting.{waiting}
use Rattle.sl_pair.proofs.CounterpartLemmas.{counterparts-matched, counterparts-sym, counterparts-unmatched}

pub in_place-sym : (own others : Packets) → AreInPlace own others → AreInPlace others own
in_place-sym own others all n m pair = sym (all m n (counterparts-sym others own n m pair))

pub in_place-unmatched : (packet : List ℕ) (own others : Packets) → copies packet others ≤ copies packet own
    → AreInPlace (own ++ packet ∷ []) others ↔ AreInPlace own others
in_place-unmatched packet own others few =
    let same = counterparts-unmatched packet own others few in
    ((λ all n m pair. all n m ((same n m).1 pair)), (λ all n m pair. all n m ((same n m).0 pair)))

pub in_place-matched : (packet : List ℕ) (own others : Packets) (head : Placed) (later : List Placed) → waiting packet others own ≡ head ∷ later
    → AreInPlace (own ++ packet ∷ []) others ↔ (AreInPlace own others × (length own ≡ head.number))
in_place-matched packet own others head later is =
    let pairs = counterparts-matched packet own others head later is in (
      (λ all. ((λ n m pair. all n m ((pairs n m).1 (inl pair))), all (length own) head.number ((pairs (length own) head.number).1 (inr (refl, refl))))),
      (λ both n m pair. elim ((pairs n m).0 pair) [
        | inl old ↦ both.0 n m old
        | inr new ↦ new.0 ∙ both.1 ∙ sym new.1
      ]),
    )
