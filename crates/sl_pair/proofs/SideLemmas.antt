-- One recording on one channel, with one packet more.
use Rattle.std.proofs.Common.{◌≡◌, ℕ, ◌+◌, ◌≤◌, ◌==◌, ◌↔◌, true, false, cond, Option, None, Some, List, [], ◌∷◌, ◌++◌, length, map, drop, BTreeMap, unwrap_or, inl, inr, refl, sym, ◌∙◌, ap, arith, IsTrue}
use Rattle.std.specs.Prelude.{bytes_eq}
use Rattle.std.specs.BTreeMap.{get, Updates}
use Rattle.std.specs.List.{slice_get}
use Rattle.std.specs.Ordering.{nat_cmp, is_eq}
use Rattle.std.proofs.Common.{eqb-true, eq-eqb, ne_eqb}
use Rattle.std.proofs.lemmas.Bool.{cases_eq}
use Rattle.std.proofs.lemmas.Grind.{common_steps}
use Rattle.std.proofs.lemmas.List.{drop-map, length-map, map-append}
use Rattle.sl_packet.specs.Packet.{apid_of}
use Rattle.sl_pair.specs.OnlyIn.{Packets, copies}
use Rattle.sl_pair.specs.Placed.{AreInPlace, Placed, count_apid, placed_after}
use Rattle.sl_pair.specs.Side.{place_of}
use Rattle.sl_pair.specs.Waiting.{waiting}
use Rattle.sl_pair.specs.declared.waiting.Place.{Place}
use Rattle.sl_pair.proofs.CounterpartLemmas.{more_where_waits}
use Rattle.sl_pair.proofs.InPlaceLemmas.{in_place-matched, in_place-unmatched}
use Rattle.sl_pair.proofs.PlacedLemmas.{none_waits, waiting-matched, waiting-own, waiting-taken}
use Rattle.sl_pair.proofs.QueueLemmas.{none_at_front, of-cond}

-- ---- numbers

-- the packets of an APID, with one packet more
pub count_apid-push : (apid : ℕ) (before : Packets) (packet : List ℕ)
    → count_apid apid (before ++ packet ∷ []) ≡ count_apid apid before + cond (apid_of packet == apid) 1 0
count_apid-push apid [] packet = omega arith
count_apid-push apid (first ∷ later) packet = omega (arith, count_apid-push apid later packet)

-- another number isn't at this key
not_at : (a b : ℕ) → (a ≡ b → ⊥) → is_eq (nat_cmp a b) ≡ false
not_at a b apart = grind (arith, common_steps)

-- each count, where that of one APID rose
pub counted_more : (m n : BTreeMap ℕ ℕ) (before : Packets) (packet : List ℕ) (count : ℕ)
    → ((apid : ℕ) → unwrap_or (get nat_cmp m apid) 0 ≡ count_apid apid before)
    → count ≡ unwrap_or (get nat_cmp m (apid_of packet)) 0 + 1
    → Updates nat_cmp m n (apid_of packet) (Some count)
    → (apid : ℕ) → unwrap_or (get nat_cmp n apid) 0 ≡ count_apid apid (before ++ packet ∷ [])
counted_more m n before packet count had more updates apid = elim (cases_eq (apid_of packet) apid) [
  | inl same ↦
      ap (λ a. unwrap_or (get nat_cmp n a) 0) (sym same) ∙ ap (λ o. unwrap_or o 0) updates.1 ∙ more
      ∙ ap (λ k. k + 1) (had (apid_of packet) ∙ ap (λ a. count_apid a before) same)
      ∙ sym (count_apid-push apid before packet ∙ ap (λ b. count_apid apid before + cond b 1 0) (eq-eqb (apid_of packet) apid same))
  | inr apart ↦
      let none : count_apid apid before + 0 ≡ count_apid apid before = omega arith in
      ap (λ o. unwrap_or o 0) (updates.2 apid (not_at (apid_of packet) apid apart)) ∙ had apid
      ∙ sym (count_apid-push apid before packet ∙ ap (λ b. count_apid apid before + cond b 1 0) (ne_eqb (apid_of packet) apid apart) ∙ none)
]

-- ---- packets that wait

-- the first place is that of a packet
pub head_of : (xs : List Placed) (place : Place) → Some place ≡ slice_get (map place_of xs) 0
    → (head : Placed) × (later : List Placed) × (xs ≡ head ∷ later) × (place_of head ≡ place)
head_of [] place is = let none : ⊥ = cc in absurd none
head_of (x ∷ xs) place is = (x, xs, refl, cc)

module _ (before others : Packets) (packet : List ℕ) where
  -- the other recording's packets, where a copy of this one was taken away if one waited
  pub other_waits : (old new : List ℕ → List Place) (octets : List ℕ) → octets ≡ packet
      → ((q : List ℕ) → old q ≡ map place_of (waiting q others before))
      → ((q : List ℕ) → new q ≡ cond (bytes_eq q octets) (drop 1 (old q)) (old q))
      → (q : List ℕ) → new q ≡ map place_of (waiting q others (before ++ packet ∷ []))
  other_waits old new octets same had left q =
      left q ∙ ap (λ o. cond (bytes_eq q o) (drop 1 (old q)) (old q)) same
      ∙ ap (λ l. cond (bytes_eq q packet) (drop 1 l) l) (had q)
      ∙ ap (λ l. cond (bytes_eq q packet) l (map place_of (waiting q others before))) (drop-map place_of 1 (waiting q others before))
      ∙ sym (of-cond (map place_of) (bytes_eq q packet) (drop 1 (waiting q others before)) (waiting q others before))
      ∙ ap (map place_of) (sym (waiting-taken q packet before others))

  -- what waits first, as the store answers it
  pub front_of : (old : List ℕ → List Place) (octets : List ℕ) → octets ≡ packet
      → ((q : List ℕ) → old q ≡ map place_of (waiting q others before))
      → (first : Option Place) → first ≡ slice_get (old octets) 0 → first ≡ slice_get (map place_of (waiting packet others before)) 0
  front_of old octets same had first is = is ∙ ap (λ o. slice_get (old o) 0) same ∙ ap (λ l. slice_get l 0) (had packet)

  -- this recording's packets, where this one waits too
  pub own_waits : copies packet others ≤ copies packet before → (place : Place) → place ≡ place_of (placed_after before packet)
      → (old new : List ℕ → List Place) → ((q : List ℕ) → old q ≡ map place_of (waiting q before others))
      → ((q : List ℕ) → new q ≡ old q ++ cond (bytes_eq q packet) (place ∷ []) [])
      → (q : List ℕ) → new q ≡ map place_of (waiting q (before ++ packet ∷ []) others)
  own_waits few place is old new had added q =
      added q ∙ ap (λ l. l ++ cond (bytes_eq q packet) (place ∷ []) []) (had q)
      ∙ ap (λ x. map place_of (waiting q before others) ++ cond (bytes_eq q packet) (x ∷ []) []) is
      ∙ ap (λ l. map place_of (waiting q before others) ++ l) (sym (of-cond (map place_of) (bytes_eq q packet) (placed_after before packet ∷ []) []))
      ∙ sym (map-append place_of (waiting q before others) (cond (bytes_eq q packet) (placed_after before packet ∷ []) []))
      ∙ ap (map place_of) (sym (waiting-own q packet before others few))

  -- where the other recording has a copy that waits
  module _ (counterpart place : Place) (is : place ≡ place_of (placed_after before packet)) (front : Some counterpart ≡ slice_get (map place_of (waiting packet others before)) 0) where
    pub still_waits : (q : List ℕ) → waiting q (before ++ packet ∷ []) others ≡ waiting q before others
    still_waits q =
        let (head, later, at, same) = head_of (waiting packet others before) counterpart front in
        waiting-matched q packet before others (more_where_waits packet others before head later at)

    pub paired_in_place : AreInPlace (before ++ packet ∷ []) others ↔ (AreInPlace before others × IsTrue (counterpart.number == place.number))
    paired_in_place =
        let (head, later, at, same) = head_of (waiting packet others before) counterpart front in
        let iff = in_place-matched packet before others head later at in
        let here : place.number ≡ length before = ap (λ (p : Place). p.number) is in
        let there : head.number ≡ counterpart.number = ap (λ (p : Place). p.number) same in (
          (λ all. ((iff.0 all).0, eq-eqb counterpart.number place.number (omega (arith, (iff.0 all).1)))),
          (λ both. iff.1 (both.0, omega (arith, eqb-true counterpart.number place.number both.1))),
        )

  -- where it has none
  module _ (front : None ≡ slice_get (map place_of (waiting packet others before)) 0) where
    pub no_more : copies packet others ≤ copies packet before
    no_more =
        let none : map place_of (waiting packet others before) ≡ [] = none_at_front (map place_of (waiting packet others before)) front in
        none_waits packet others before (sym (length-map (waiting packet others before) place_of) ∙ ap length none)

    pub unpaired_in_place : AreInPlace (before ++ packet ∷ []) others ↔ (AreInPlace before others × IsTrue true)
    unpaired_in_place =
        let iff = in_place-unmatched packet before others no_more in
        ((λ all. (iff.0 all, refl)), (λ both. iff.1 both.0))
